-- Each structure that is read or written, byte by byte, as `linux/gpio.h` lays it out, with little-endian numbers: the
-- information on a chip and on a line, a request of two lines with an attribute, values that are set and got, a line that is
-- watched, and then no longer, changes of it, a request with a consumer and room for events, an event, and a configuration with
-- a debounce period. No line has a name here. No word that makes bytes of numbers and names, or fills them up to a length,
-- stands here, so that a fault of such a word would show.
use Rattle.std.specs.Prelude.{ℕ, List, [], ◌∷◌, ◌++◌, flat_map, replicate, true, false, Some}
use Rattle.gl_base.specs.declared.errno.Errno.TheVariants.{Perm}
use Rattle.gl_base.specs.declared.kind.Kind.TheVariants.{Simulated}
use Rattle.gl_model.specs.declared.call.Call.TheVariants.{Ioctl, OpenChip, Probe, Pull, ReadEdges, ReadInfo, Tick}
use Rattle.gl_model.specs.declared.call.Part.TheVariants.{Whole, Ask, Tell}
use Rattle.gl_model.specs.declared.reply.Reply.TheVariants.{Done, Go, Number, Refused}
use Rattle.gl_model_runs.specs.Run.{Answer, Made, says, shows}

-- a number of zero bytes
abbrev pub nothing : ℕ → List ℕ
nothing count = replicate count 0x00

-- the information on line 3 is asked for, in 256 bytes
abbrev pub line_info_in : List ℕ
line_info_in = nothing 64 ++ 0x03 ∷ 0x00 ∷ 0x00 ∷ 0x00 ∷ nothing 188

-- it is free, and an input
abbrev pub line_info_out : List ℕ
line_info_out = nothing 64 ++ 0x03 ∷ 0x00 ∷ 0x00 ∷ 0x00 ∷ 0x00 ∷ 0x00 ∷ 0x00 ∷ 0x00 ∷ 0x04 ∷ nothing 183

-- Lines 0 and 1 are asked for, in 592 bytes: the offsets, no consumer, the flag of an input, one attribute with padding, the
-- attribute of flags with that of an output for the first of the lines, no more attributes, two lines, no room asked for.
-- The last four bytes are the number of the request's file.
abbrev pub two_lines : List ℕ → List ℕ
two_lines fd =
    nothing 4 ++ 0x01 ∷ nothing 283
    ++ 0x04 ∷ nothing 7
    ++ 0x01 ∷ 0x00 ∷ 0x00 ∷ 0x00 ∷ nothing 20
    ++ 0x01 ∷ 0x00 ∷ 0x00 ∷ 0x00 ∷ 0x00 ∷ 0x00 ∷ 0x00 ∷ 0x00
    ∷ 0x08 ∷ 0x00 ∷ 0x00 ∷ 0x00 ∷ 0x00 ∷ 0x00 ∷ 0x00 ∷ 0x00
    ∷ 0x01 ∷ 0x00 ∷ 0x00 ∷ 0x00 ∷ 0x00 ∷ 0x00 ∷ 0x00 ∷ 0x00
    ∷ nothing 216
    ++ 0x02 ∷ 0x00 ∷ 0x00 ∷ 0x00 ∷ nothing 24
    ++ fd

-- line 2 is asked for with both its edges by a consumer `ab`, with room for 256 events
abbrev pub edges : List ℕ → List ℕ
edges fd =
    0x02 ∷ nothing 255
    ++ 0x61 ∷ 0x62 ∷ nothing 30
    ++ 0x34 ∷ nothing 271
    ++ 0x01 ∷ 0x00 ∷ 0x00 ∷ 0x00 ∷ 0x00 ∷ 0x01 ∷ 0x00 ∷ 0x00 ∷ nothing 20
    ++ fd

-- some bits and a mask, of one byte each
abbrev pub values : ℕ → ℕ → List ℕ
values bits mask = bits ∷ nothing 7 ++ mask ∷ nothing 7

-- a configuration with both edges of an active-low input, and one attribute: the period 0x01020304 for the first line
abbrev pub configuration : List ℕ
configuration =
    0x36 ∷ nothing 7
    ++ 0x01 ∷ 0x00 ∷ 0x00 ∷ 0x00 ∷ nothing 20
    ++ 0x03 ∷ 0x00 ∷ 0x00 ∷ 0x00 ∷ 0x00 ∷ 0x00 ∷ 0x00 ∷ 0x00
    ∷ 0x04 ∷ 0x03 ∷ 0x02 ∷ 0x01 ∷ 0x00 ∷ 0x00 ∷ 0x00 ∷ 0x00
    ∷ 0x01 ∷ 0x00 ∷ 0x00 ∷ 0x00 ∷ 0x00 ∷ 0x00 ∷ 0x00 ∷ 0x00
    ∷ nothing 216

-- line 2 falls and rises eight times
abbrev pub pulls : List Made
pulls = flat_map (λ up. record { actor = 0; call = Pull 0 2 up } ∷ []) (flat_map (λ zero. false ∷ true ∷ []) (nothing 8))

-- Line 2 is watched; the clock is 0x0102030405060708 when it is requested and pulled up, and configured. There is room for its 17
-- events, of which the first one is read.
unfoldable pub run : List Made
run =
    record { actor = 0; call = Probe (0x64 ∷ 0x65 ∷ 0x6D ∷ 0x6F ∷ []) 4 Simulated }
    ∷ record { actor = 0; call = OpenChip (0x30 ∷ []) }
    ∷ record { actor = 0; call = Ioctl 0 3 0x8044_B401 68 (nothing 592) Whole }
    ∷ record { actor = 0; call = Ioctl 0 3 0xC100_B405 256 (line_info_in ++ nothing 336) Whole }
    ∷ record { actor = 0; call = Ioctl 0 3 0xC250_B407 592 (two_lines (nothing 4)) Ask }
    ∷ record { actor = 0; call = Ioctl 0 3 0xC250_B407 592 (two_lines (nothing 4)) (Tell (Some 0)) }
    ∷ record { actor = 0; call = Ioctl 0 4 0xC010_B40F 16 (values 0x03 0x03 ++ nothing 576) Ask }
    ∷ record { actor = 0; call = Ioctl 0 4 0xC010_B40F 16 (values 0x01 0x01 ++ nothing 576) Ask }
    ∷ record { actor = 0; call = Ioctl 0 4 0xC010_B40F 16 (values 0x01 0x01 ++ nothing 576) (Tell (Some 0)) }
    ∷ record { actor = 0; call = Ioctl 0 4 0xC010_B40E 16 (values 0x00 0x03 ++ nothing 576) Ask }
    ∷ record { actor = 0; call = Ioctl 0 4 0xC010_B40E 16 (values 0x00 0x03 ++ nothing 576) (Tell (Some 0)) }
    ∷ record { actor = 0; call = Ioctl 0 3 0xC100_B406 256 (nothing 64 ++ 0x02 ∷ nothing 527) Whole }
    ∷ record { actor = 0; call = Tick 0x0102_0304_0506_0708 0 }
    ∷ record { actor = 0; call = Ioctl 0 3 0xC250_B407 592 (edges (0xFF ∷ 0xFF ∷ 0xFF ∷ 0xFF ∷ [])) Ask }
    ∷ record { actor = 0; call = Ioctl 0 3 0xC250_B407 592 (edges (0xFF ∷ 0xFF ∷ 0xFF ∷ 0xFF ∷ [])) (Tell (Some 0)) }
    ∷ record { actor = 0; call = Pull 0 2 true }
    ∷ pulls
    ++ record { actor = 0; call = ReadEdges 0 5 48 }
    ∷ record { actor = 0; call = ReadInfo 0 3 288 }
    ∷ record { actor = 0; call = Ioctl 0 5 0xC110_B40D 272 (configuration ++ nothing 320) Ask }
    ∷ record { actor = 0; call = Ioctl 0 5 0xC110_B40D 272 (configuration ++ nothing 320) (Tell (Some 0)) }
    ∷ record { actor = 0; call = ReadInfo 0 3 288 }
    ∷ record { actor = 0; call = Ioctl 0 3 0xC004_B40C 4 (0x02 ∷ nothing 591) Whole }
    ∷ []

-- the name, the label and the number of lines
abbrev pub chip_info_out : List ℕ
chip_info_out =
    0x67 ∷ 0x70 ∷ 0x69 ∷ 0x6F ∷ 0x63 ∷ 0x68 ∷ 0x69 ∷ 0x70 ∷ 0x30 ∷ nothing 23
    ++ 0x64 ∷ 0x65 ∷ 0x6D ∷ 0x6F ∷ nothing 28
    ++ 0x04 ∷ 0x00 ∷ 0x00 ∷ 0x00 ∷ []

-- the time, a rising edge, line 2, the first event of the request and of the line, padding
abbrev pub event_out : List ℕ
event_out =
    0x08 ∷ 0x07 ∷ 0x06 ∷ 0x05 ∷ 0x04 ∷ 0x03 ∷ 0x02 ∷ 0x01
    ∷ 0x01 ∷ 0x00 ∷ 0x00 ∷ 0x00 ∷ 0x02 ∷ 0x00 ∷ 0x00 ∷ 0x00
    ∷ 0x01 ∷ 0x00 ∷ 0x00 ∷ 0x00 ∷ 0x01 ∷ 0x00 ∷ 0x00 ∷ 0x00
    ∷ nothing 24

-- no name, the consumer, line 2 with no attribute, its flags (used, an input, both edges), no attributes and padding; the
-- time, that it was requested, padding
abbrev pub requested_out : List ℕ
requested_out =
    nothing 32
    ++ 0x61 ∷ 0x62 ∷ nothing 30
    ++ 0x02 ∷ 0x00 ∷ 0x00 ∷ 0x00 ∷ 0x00 ∷ 0x00 ∷ 0x00 ∷ 0x00
    ∷ 0x35 ∷ 0x00 ∷ 0x00 ∷ 0x00 ∷ 0x00 ∷ 0x00 ∷ 0x00 ∷ 0x00
    ∷ nothing 176
    ++ 0x08 ∷ 0x07 ∷ 0x06 ∷ 0x05 ∷ 0x04 ∷ 0x03 ∷ 0x02 ∷ 0x01
    ∷ 0x01 ∷ 0x00 ∷ 0x00 ∷ 0x00
    ∷ nothing 20

-- the same line with one attribute, its flags (active low too), the attribute, which is the period, no more attributes and
-- padding; the time, that it was configured, padding
abbrev pub configured_out : List ℕ
configured_out =
    nothing 32
    ++ 0x61 ∷ 0x62 ∷ nothing 30
    ++ 0x02 ∷ 0x00 ∷ 0x00 ∷ 0x00 ∷ 0x01 ∷ 0x00 ∷ 0x00 ∷ 0x00
    ∷ 0x37 ∷ 0x00 ∷ 0x00 ∷ 0x00 ∷ 0x00 ∷ 0x00 ∷ 0x00 ∷ 0x00
    ∷ 0x03 ∷ 0x00 ∷ 0x00 ∷ 0x00 ∷ 0x00 ∷ 0x00 ∷ 0x00 ∷ 0x00
    ∷ 0x04 ∷ 0x03 ∷ 0x02 ∷ 0x01 ∷ 0x00 ∷ 0x00 ∷ 0x00 ∷ 0x00
    ∷ nothing 160
    ++ 0x08 ∷ 0x07 ∷ 0x06 ∷ 0x05 ∷ 0x04 ∷ 0x03 ∷ 0x02 ∷ 0x01
    ∷ 0x03 ∷ 0x00 ∷ 0x00 ∷ 0x00
    ∷ nothing 20

unfoldable pub given : List Answer
given =
    says (Number 0)
    ∷ says (Number 3)
    ∷ shows chip_info_out
    ∷ shows line_info_out
    ∷ says (Go 4)
    ∷ record { reply = Number 4; bytes = two_lines (0x04 ∷ 0x00 ∷ 0x00 ∷ 0x00 ∷ []) }
    ∷ says (Refused Perm)
    ∷ says (Go 0)
    ∷ says Done
    ∷ says (Go 0)
    ∷ shows (values 0x01 0x03)
    ∷ shows (nothing 64 ++ 0x02 ∷ nothing 7 ++ 0x04 ∷ nothing 183)
    ∷ says Done
    ∷ says (Go 5)
    ∷ record { reply = Number 5; bytes = edges (0x05 ∷ 0x00 ∷ 0x00 ∷ 0x00 ∷ []) }
    ∷ says Done
    ∷ replicate 16 (says Done)
    ++ record { reply = Number 48; bytes = event_out }
    ∷ record { reply = Number 288; bytes = requested_out }
    ∷ says (Go 0)
    ∷ says Done
    ∷ record { reply = Number 288; bytes = configured_out }
    ∷ shows (0x02 ∷ 0x00 ∷ 0x00 ∷ 0x00 ∷ [])
    ∷ []
