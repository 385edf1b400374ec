use Rattle.std.proofs.Common.{List, ℕ, arith, subst, sym}
use Rattle.gl_uapi.specs.declared.line_events.Event.{Event}
use Rattle.gl_uapi.specs.LineEvent.{EventFits, SpellsEvent}
use Rattle.gl_uapi.proofs.Writing.{front_written, nothing_written, number_written, zeros_written}
use Rattle.gl_uapi.proofs.EventLaws.{event_spelled}
use Rattle.gl_uapi.proofs.line_events.write_event.Goals as goal

pub returns-clause-bytes : goal.returns-clause-bytes
returns-clause-bytes c =
    let event : Event = c.args.event.now in
    let timestamp = number_written (nothing_written c.args.out.now) 8 event.timestamp c.put_u64.new.out c.put_u64.ensures in
    let id = number_written timestamp 4 event.id c.put_u32.new.out c.put_u32.ensures in
    let offset = number_written id 4 event.offset c.put_u32-2.new.out c.put_u32-2.ensures in
    let seqno = number_written offset 4 event.seqno c.put_u32-3.new.out c.put_u32-3.ensures in
    let line_seqno = number_written seqno 4 event.line_seqno c.put_u32-4.new.out c.put_u32-4.ensures in
    (zeros_written line_seqno 24 c.put_zeros.new.out c.put_zeros.ensures).holds

pub returns-clause-spelled : goal.returns-clause-spelled
returns-clause-spelled c =
    let event : Event = c.args.event.now in
    let timestamp = number_written (nothing_written c.args.out.now) 8 event.timestamp c.put_u64.new.out c.put_u64.ensures in
    let id = number_written timestamp 4 event.id c.put_u32.new.out c.put_u32.ensures in
    let offset = number_written id 4 event.offset c.put_u32-2.new.out c.put_u32-2.ensures in
    let seqno = number_written offset 4 event.seqno c.put_u32-3.new.out c.put_u32-3.ensures in
    let line_seqno = number_written seqno 4 event.line_seqno c.put_u32-4.new.out c.put_u32-4.ensures in
    let whole = zeros_written line_seqno 24 c.put_zeros.new.out c.put_zeros.ensures in
    let fits : EventFits event = record {
      timestamp = omega arith;
      id = omega arith;
      offset = omega arith;
      seqno = omega arith;
      line_seqno = omega arith;
    } in
    let Spelled : List ℕ → Type 0 = λ bytes. SpellsEvent bytes event in
    subst Spelled (sym (front_written whole)) (event_spelled event fits)
