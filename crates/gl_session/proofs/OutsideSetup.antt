-- A section other than `setup` asks for no chip over requests: an `aggregate` is refused there.
use Rattle.std.proofs.Common.{◌≡◌, ◌+◌, ℕ, Bool, true, false, ◌||◌, List, [], ◌∷◌, Option, None, Some, refl, sym, ap, subst}
use Rattle.std.specs.List.{list_any}
use Rattle.std.specs.Prelude.{if◌then◌else◌}
use Rattle.gl_base.specs.Operation.{refusal}
use Rattle.gl_base.specs.Words.{Span, text_at}
use Rattle.gl_base.specs.declared.errno.Errno.{Errno}
use Rattle.gl_base.specs.declared.errno.Errno.TheVariants.{Inval}
use Rattle.gl_base.specs.declared.operation.Got.{Got}
use Rattle.gl_args.specs.Options.{SaidTool, SaidDetect, SaidInfo, SaidGet, SaidSet, SaidWatch, SaidNotify}
use Rattle.gl_args.specs.Tools.{tool_said}
use Rattle.gl_client.specs.Chips.{AsksNoChips}
use Rattle.gl_client.specs.Program.{Program, done, print, ask, then_by}
use Rattle.gl_monitor.specs.Monitor.{Watched, monitor_program, steps_held}
use Rattle.gl_monitor.specs.Monitor.{stops as stops_watching}
use Rattle.gl_script.specs.Cost.{is_aggregate, words_aggregate}
use Rattle.gl_script.specs.Table.{keyword_of}
use Rattle.gl_script.specs.declared.table.Keyword.{Keyword}
use Rattle.gl_script.specs.declared.table.Keyword.TheVariants.{Aggregate}
use Rattle.gl_values.specs.Client.{held_program, tool_program}
use Rattle.gl_values.specs.Set.{Held}
use Rattle.gl_values.specs.Set.{stops as stops_holding}
use Rattle.gl_talk.specs.declared.tools.StatementKind.{StatementKind}
use Rattle.gl_talk.specs.declared.tools.StatementKind.TheVariants.{Plain, ToolAlone, Starting, Stepping, Stopping}
use Rattle.gl_talk.specs.Actions.{action_here, action_of, is_out_of_place}
use Rattle.gl_talk.specs.Formats.{Action, Nothing, Refuse, Ask, ResultFormat, Silent, Value, Level, Bytes, Edges, Infos, Ready, Opened, Closed, Made, OldBytes, OldEdges, OldMade}
use Rattle.gl_talk.specs.Open.{Names, has_tool, held_of_name, watched_of_name, with_monitor, with_set, without_monitor, without_set}
use Rattle.gl_talk.specs.Talk.{acts, does, does_by, keeps_monitor, keeps_set, quits, replied_by, runs, says, slot_behind, starts, starts_said, starts_tool, steps, stops}
use Rattle.gl_talk.specs.ToolWords.{kind_of, word_texts}
use Rattle.gl_talk.specs.Words.{behind_two, turns_word}
use Rattle.gl_talk.proofs.TalkChips.{end_none, says_none}

-- the statements after a program aren't those of `setup`, where those before it aren't
abbrev StaysOutside : Program Names → Type 0
StaysOutside (done names) = names.in_setup ≡ false
StaysOutside (print text p) = StaysOutside p
StaysOutside (ask what p) = (got : Got) → StaysOutside (p got)

outside_behind : {A : Type 0} (p : Program A) (f : A → Program Names) → ((value : A) → StaysOutside (f value)) → StaysOutside (then_by p f)
outside_behind (done value) f h = h value
outside_behind (print text p) f h = outside_behind p f h
outside_behind (ask what p) f h = λ got. outside_behind (p got) f h

set_outside : (name : List ℕ) (held : Held) (names : Names) → names.in_setup ≡ false → (with_set name held names).in_setup ≡ false
set_outside name None names out = out
set_outside name (Some slot) names out = out

monitor_outside : (name : List ℕ) (watched : Watched) (names : Names) → names.in_setup ≡ false → (with_monitor name watched names).in_setup ≡ false
monitor_outside name None names out = out
monitor_outside name (Some watching) names out = out

module _ (names : Names) (out : names.in_setup ≡ false) where
  told_outside : (fault : Option Errno) (reply : ResultFormat) (slot : ℕ) (words : List Span) (got : Got) → StaysOutside (replied_by fault reply names slot words got)
  told_outside (Some errno) reply slot words got = out
  told_outside None Silent slot words got = out
  told_outside None Value slot words got = out
  told_outside None (Level is_pull) slot words got = out
  told_outside None Bytes slot words got = out
  told_outside None Edges slot words got = out
  told_outside None Infos slot words got = out
  told_outside None Ready slot words got = out
  told_outside None Opened slot words got = out
  told_outside None Closed slot words got = out
  told_outside None Made slot words got = out
  told_outside None (OldBytes kind) slot words got = out
  told_outside None OldEdges slot words got = out
  told_outside None OldMade slot words got = out

  acts_outside : (action : Action) (slot : ℕ) (words : List Span) → StaysOutside (acts action names slot words)
  acts_outside Nothing slot words = out
  acts_outside (Refuse errno) slot words = out
  acts_outside (Ask what reply) slot words = λ got. told_outside (refusal got) reply slot words got

  runs_outside : (tool : Option SaidTool) (slot : ℕ) (words : List Span) → StaysOutside (runs tool names slot words)
  runs_outside None slot words = out
  runs_outside (Some tool) slot words = outside_behind (tool_program tool slot) (λ value. done names) (λ value. out)

  starts_tool_outside : (tool : SaidTool) (slot : ℕ) (name : List ℕ) → StaysOutside (starts_tool tool names slot name)
  starts_tool_outside (SaidDetect texts) slot name = out
  starts_tool_outside (SaidInfo opts) slot name = out
  starts_tool_outside (SaidGet opts) slot name = out
  starts_tool_outside (SaidSet opts) slot name = outside_behind (held_program (SaidSet opts) slot) (keeps_set name names) (λ held. set_outside name held names out)
  starts_tool_outside (SaidWatch opts) slot name = outside_behind (monitor_program (SaidWatch opts) slot) (keeps_monitor name names) (λ watched. monitor_outside name watched names out)
  starts_tool_outside (SaidNotify opts) slot name = outside_behind (monitor_program (SaidNotify opts) slot) (keeps_monitor name names) (λ watched. monitor_outside name watched names out)

  said_outside : (tool : Option SaidTool) (slot : ℕ) (words : List Span) → StaysOutside (starts_said tool names slot words)
  said_outside None slot words = out
  said_outside (Some tool) slot words = starts_tool_outside tool slot (text_at 1 words)

  starts_outside : (taken : Bool) (slot : ℕ) (words : List Span) → StaysOutside (starts taken names slot words)
  starts_outside true slot words = out
  starts_outside false slot words = said_outside (tool_said (word_texts (behind_two words))) slot words

  steps_outside : (watched : Option Watched) (held : Option Held) (words : List Span) → StaysOutside (steps watched held names words)
  steps_outside None None words = out
  steps_outside None (Some held) words = out
  steps_outside (Some watched) held words =
      let name = text_at 1 words in
      outside_behind (steps_held watched (turns_word (text_at 2 words))) (keeps_monitor name (without_monitor name names)) (λ next. monitor_outside name next (without_monitor name names) out)

  stops_outside : (watched : Option Watched) (held : Option Held) (words : List Span) → StaysOutside (stops watched held names words)
  stops_outside None None words = out
  stops_outside None (Some held) words = let name = text_at 1 words in outside_behind (stops_holding held) (keeps_set name (without_set name names)) (λ next. set_outside name next (without_set name names) out)
  stops_outside (Some watched) held words =
      let name = text_at 1 words in outside_behind (stops_watching watched) (keeps_monitor name (without_monitor name names)) (λ next. monitor_outside name next (without_monitor name names) out)

  does_outside : (kind : StatementKind) (slot : ℕ) (words : List Span) → StaysOutside (does_by kind names slot words)
  does_outside Plain slot words = acts_outside (action_here names.in_setup names.files slot words) slot words
  does_outside ToolAlone slot words = runs_outside (tool_said (word_texts words)) slot words
  does_outside Starting slot words = starts_outside (has_tool (text_at 1 words) names) slot words
  does_outside Stepping slot words = steps_outside (watched_of_name (text_at 1 words) names.monitors) (held_of_name (text_at 1 words) names.sets) words
  does_outside Stopping slot words = stops_outside (watched_of_name (text_at 1 words) names.monitors) (held_of_name (text_at 1 words) names.sets) words

-- a program asks for none where it does so with another one behind it
first_none : {A B : Type 0} (p : Program A) (f : A → Program B) → AsksNoChips (then_by p f) → AsksNoChips p
first_none (done value) f h = tt
first_none (print text p) f h = first_none p f h
first_none (ask what p) f h = (h.0, λ got. first_none (p got) f (h.1 got))

outside_then : {A : Type 0} (p : Program Names) (f : Names → Program A) → AsksNoChips p → StaysOutside p → ((names : Names) → names.in_setup ≡ false → AsksNoChips (f names)) → AsksNoChips (then_by p f)
outside_then (done names) f none stays later = later names stays
outside_then (print text p) f none stays later = outside_then p f none stays later
outside_then (ask what p) f none stays later = (none.0, λ got. outside_then (p got) f (none.1 got) (stays got) later)

is_that_keyword : (keyword : Option Keyword) → is_aggregate keyword ≡ true → keyword ≡ Some Aggregate
is_that_keyword (Some Aggregate) is = refl
is_that_keyword _ is = cc

does_none : (begun : ℕ) (words : List Span) (names : Names) → names.in_setup ≡ false → AsksNoChips (does names (slot_behind begun) words)
does_none begun words names out = by (words_aggregate words) refl
  where
    by : (b : Bool) → words_aggregate words ≡ b → AsksNoChips (does names (slot_behind begun) words)
    by true is =
        let keyword = is_that_keyword (keyword_of (text_at 0 words)) is in
        let refused_here : AsksNoChips (does_by Plain names (slot_behind begun) words) =
        subst (λ (b : Bool). AsksNoChips (acts (if b then Refuse Inval else action_of (keyword_of (text_at 0 words)) names.files (slot_behind begun) words) names (slot_behind begun) words))
        (sym (λ i. is_out_of_place (out i) (keyword i))) tt in
        subst (λ (kind : StatementKind). AsksNoChips (does_by kind names (slot_behind begun) words)) (sym (ap kind_of keyword)) refused_here
    by false is = first_none (does names (slot_behind begun) words) (says (begun + 1) [] done) (says_none begun (words ∷ []) done (ap (λ b. b || list_any words_aggregate []) is) (λ after. tt) names)

-- statements in a row of another section, where what comes after them asks for none either
pub outside_none : {A : Type 0} (begun : ℕ) (statements : List (List Span)) (behind : Names → Program A) → ((names : Names) → names.in_setup ≡ false → AsksNoChips (behind names)) → (names : Names) → names.in_setup ≡ false
    → AsksNoChips (says begun statements behind names)
outside_none begun [] behind none names out = none names out
outside_none begun (words ∷ statements) behind none names out =
    outside_then (does names (slot_behind begun) words) (says (begun + 1) statements behind) (does_none begun words names out)
    (does_outside names out (kind_of (keyword_of (text_at 0 words))) (slot_behind begun) words) (λ after still. outside_none (begun + 1) statements behind none after still)

-- and then the end
pub ends_outside : (begun : ℕ) (statements : List (List Span)) (names : Names) → names.in_setup ≡ false → AsksNoChips (says begun statements quits names)
ends_outside begun statements names out = outside_none begun statements quits (λ left still. end_none left) names out
