-- The bytes of an event spell it.
use Rattle.std.proofs.Common.{ℕ, ◌≡◌, List, ◌++◌, length, ap, ◌∙◌, arith, append_assoc, length-append}
use Rattle.gl_uapi.specs.declared.line_events.Event.{Event}
use Rattle.gl_uapi.specs.Fields.{is_zero_at, number_at, number_bytes, zeros}
use Rattle.gl_uapi.specs.LineEvent.{EventFits, SpellsEvent, event_bytes, event_in}
use Rattle.gl_uapi.proofs.Reading.{is_zero_at-behind, is_zero_at-last, length-number_bytes, length-zeros, number_at-behind, number_at-here}

pub length-event_bytes : (event : Event) → length (event_bytes event) ≡ 48
length-event_bytes event = simp (length-append, length-number_bytes, length-zeros)

-- the fields, from the front
fields : (event : Event) → event_bytes event
    ≡ number_bytes 8 event.timestamp ++ (number_bytes 4 event.id ++ (number_bytes 4 event.offset ++ (number_bytes 4 event.seqno
    ++ (number_bytes 4 event.line_seqno ++ zeros 24))))
fields event = simp append_assoc

pub event_spelled : (event : Event) → EventFits event → SpellsEvent (event_bytes event) event
event_spelled event fits =
    let t = length-number_bytes 8 event.timestamp in
    let i = length-number_bytes 4 event.id in
    let o = length-number_bytes 4 event.offset in
    let s = length-number_bytes 4 event.seqno in
    let l = length-number_bytes 4 event.line_seqno in
    record {
      size = length-event_bytes event;
      timestamp = ap (number_at 8 0) (fields event) ∙ number_at-here 8 _ _ fits.timestamp;
      id = ap (number_at 4 8) (fields event) ∙ number_at-behind 4 8 8 _ _ t (omega arith) ∙ number_at-here 4 _ _ fits.id;
      offset =
          ap (number_at 4 12) (fields event) ∙ number_at-behind 4 12 8 _ _ t (omega arith) ∙ number_at-behind 4 4 4 _ _ i (omega arith)
          ∙ number_at-here 4 _ _ fits.offset;
      seqno =
          ap (number_at 4 16) (fields event) ∙ number_at-behind 4 16 8 _ _ t (omega arith) ∙ number_at-behind 4 8 4 _ _ i (omega arith)
          ∙ number_at-behind 4 4 4 _ _ o (omega arith) ∙ number_at-here 4 _ _ fits.seqno;
      line_seqno =
          ap (number_at 4 20) (fields event) ∙ number_at-behind 4 20 8 _ _ t (omega arith) ∙ number_at-behind 4 12 4 _ _ i (omega arith)
          ∙ number_at-behind 4 8 4 _ _ o (omega arith) ∙ number_at-behind 4 4 4 _ _ s (omega arith) ∙ number_at-here 4 _ _ fits.line_seqno;
      padding =
          ap (is_zero_at 24 24) (fields event) ∙ is_zero_at-behind 24 8 24 _ _ t (omega arith) ∙ is_zero_at-behind 16 4 24 _ _ i (omega arith)
          ∙ is_zero_at-behind 12 4 24 _ _ o (omega arith) ∙ is_zero_at-behind 8 4 24 _ _ s (omega arith)
          ∙ is_zero_at-behind 4 4 24 _ _ l (omega arith) ∙ is_zero_at-last 24;
    }

pub event_read : (bytes : List ℕ) (event : Event) → SpellsEvent bytes event → event_in bytes ≡ event
event_read bytes event spelled =
    simp (spelled.timestamp, spelled.id, spelled.offset, spelled.seqno, spelled.line_seqno)
