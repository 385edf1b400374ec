-- An edge of a line, `struct gpio_v2_line_event` of `linux/gpio.h`.
use Rattle.std.specs.Prelude.{ℕ, ◌≡◌, ◌^◌, ◌<◌, List, ◌++◌, length, IsTrue}
use Rattle.gl_uapi.specs.declared.line_events.Event.{Event}
use Rattle.gl_uapi.specs.declared.layout.TheConstants.{LINE_EVENT_SIZE, EVENT_TIMESTAMP, EVENT_ID, EVENT_OFFSET, EVENT_SEQNO, EVENT_LINE_SEQNO, EVENT_PADDING, EVENT_PADDING_SIZE}
use Rattle.gl_uapi.specs.Fields.{is_zero_at, number_at, number_bytes, zeros}

-- the bytes spell this event
pub record SpellsEvent (bytes : List ℕ) (event : Event) : Type 0 where
  pub size : length bytes ≡ LINE_EVENT_SIZE
  pub timestamp : number_at 8 EVENT_TIMESTAMP bytes ≡ event.timestamp
  pub id : number_at 4 EVENT_ID bytes ≡ event.id
  pub offset : number_at 4 EVENT_OFFSET bytes ≡ event.offset
  pub seqno : number_at 4 EVENT_SEQNO bytes ≡ event.seqno
  pub line_seqno : number_at 4 EVENT_LINE_SEQNO bytes ≡ event.line_seqno
  pub padding : IsTrue (is_zero_at EVENT_PADDING EVENT_PADDING_SIZE bytes)

-- the event whose fields stand in the bytes
abbrev pub event_in : List ℕ → Event
event_in bytes = record {
  timestamp = number_at 8 EVENT_TIMESTAMP bytes;
  id = number_at 4 EVENT_ID bytes;
  offset = number_at 4 EVENT_OFFSET bytes;
  seqno = number_at 4 EVENT_SEQNO bytes;
  line_seqno = number_at 4 EVENT_LINE_SEQNO bytes;
}

-- the bytes of an event
abbrev pub event_bytes : Event → List ℕ
event_bytes event =
    number_bytes 8 event.timestamp ++ number_bytes 4 event.id ++ number_bytes 4 event.offset ++ number_bytes 4 event.seqno
    ++ number_bytes 4 event.line_seqno ++ zeros EVENT_PADDING_SIZE

-- the fields of an event have room in their bytes
pub record EventFits (event : Event) : Type 0 where
  pub timestamp : event.timestamp < 2 ^ 64
  pub id : event.id < 2 ^ 32
  pub offset : event.offset < 2 ^ 32
  pub seqno : event.seqno < 2 ^ 32
  pub line_seqno : event.line_seqno < 2 ^ 32
