-- The words with which the texts of calls begin. This project's choice.
use Rattle.std.specs.Prelude.{ℕ, Bool, List, Option, find, Some, None, codes}
use Rattle.std.specs.Str.{bytes_eq}
use Rattle.gl_trace.specs.declared.verb.CommandPart.{CommandPart}
use Rattle.gl_trace.specs.declared.verb.CommandPart.TheVariants.{Whole, Ask as AskPart, Tell as TellPart}
use Rattle.gl_trace.specs.declared.verb.Count.{Count}
use Rattle.gl_trace.specs.declared.verb.Count.TheVariants.{One, Two, Three, Four}
use Rattle.gl_trace.specs.declared.verb.TheConstants.{VERBS}
use Rattle.gl_trace.specs.declared.verb.Verb.{Verb}
use Rattle.gl_trace.specs.declared.verb.Verb.TheVariants.{Probe, Unplug, MakeDir, RemoveDir, Write, Read, Live, Remove, Tick, Range, Hold, Drop, Lock, Unlock, Enable, Disable, Never, Pull, Interrupt, Level, PullOf, Open, Find, Ioctl, Ask, Tell, ReadLine, ReadChip, PollLine, PollChip, Close, Refused}

-- the word
abbrev pub verb_word : Verb → List ℕ
verb_word Probe = codes "probe"
verb_word Unplug = codes "unplug"
verb_word MakeDir = codes "mkdir"
verb_word RemoveDir = codes "rmdir"
verb_word Write = codes "write"
verb_word Read = codes "read"
verb_word Live = codes "live"
verb_word Remove = codes "remove"
verb_word Tick = codes "tick"
verb_word Range = codes "range"
verb_word Hold = codes "hold"
verb_word Drop = codes "drop"
verb_word Lock = codes "lock"
verb_word Unlock = codes "unlock"
verb_word Enable = codes "enable"
verb_word Disable = codes "disable"
verb_word Never = codes "none"
verb_word Pull = codes "pull"
verb_word Interrupt = codes "interrupt"
verb_word Level = codes "level"
verb_word PullOf = codes "pullof"
verb_word Open = codes "open"
verb_word Find = codes "find"
verb_word Ioctl = codes "ioctl"
verb_word Ask = codes "ask"
verb_word Tell = codes "tell"
verb_word ReadLine = codes "readline"
verb_word ReadChip = codes "readchip"
verb_word PollLine = codes "pollline"
verb_word PollChip = codes "pollchip"
verb_word Close = codes "close"
verb_word Refused = codes "refused"

abbrev pub is_verb : List ℕ → Verb → Bool
is_verb word verb = bytes_eq (verb_word verb) word

-- the verb of a word, if it is one
abbrev pub verb_of : List ℕ → Option Verb
verb_of word = find (is_verb word) VERBS

-- how many words stand after it, before the bytes of a command
abbrev pub verb_count : Verb → Count
verb_count Probe = Three
verb_count Unplug = Two
verb_count MakeDir = One
verb_count RemoveDir = One
verb_count Write = Two
verb_count Read = One
verb_count Live = One
verb_count Remove = Two
verb_count Tick = Two
verb_count Range = Four
verb_count Hold = Two
verb_count Drop = Two
verb_count Lock = Two
verb_count Unlock = Two
verb_count Enable = Two
verb_count Disable = Two
verb_count Never = Two
verb_count Pull = Three
verb_count Interrupt = Three
verb_count Level = Two
verb_count PullOf = Two
verb_count Open = One
verb_count Find = Two
verb_count Ioctl = Four
verb_count Ask = Four
verb_count Tell = Four
verb_count ReadLine = Three
verb_count ReadChip = Three
verb_count PollLine = Two
verb_count PollChip = Two
verb_count Close = One
verb_count Refused = Two

-- the part of a command that it is of, if it is of one
abbrev pub asked_of : Verb → Option CommandPart
asked_of Ioctl = Some Whole
asked_of Ask = Some AskPart
asked_of Tell = Some TellPart
asked_of _ = None
