-- What is known of the words of a statement that was copied.
use Rattle.std.proofs.Common.{◌≡◌, ◌<◌, ℕ, true, List, [], ◌∷◌, length, Option, None, Some, refl, sym, ◌∙◌, ap, subst, arith}
use Rattle.std.specs.Prelude.{IsSome}
use Rattle.gl_args.specs.Items.{Item}
use Rattle.gl_args.specs.Names.{tool_named}
use Rattle.gl_args.specs.Options.{SaidTool}
use Rattle.gl_args.specs.Tools.{right_said, tool_behind, tool_by, tool_of, tool_said}
use Rattle.gl_args.specs.declared.names.ToolName.{ToolName}
use Rattle.gl_args.specs.declared.names.ToolName.TheVariants.{Set as SetName, Watch, Notify}
use Rattle.gl_base.specs.Words.{Span, text_at}
use Rattle.gl_script.specs.Formed.{AreFormed, IsWord}
use Rattle.gl_script.specs.Said.{Spells, keyword_said, said_of}
use Rattle.gl_script.specs.Table.{keyword_of}
use Rattle.gl_script.specs.declared.said.Said.{Said}
use Rattle.gl_script.specs.declared.said.Said.TheVariants.{Ioctl, Events, OldIoctl, OldEvents, Changes, Poll, Close, Start}
use Rattle.gl_script.specs.declared.table.Form.TheVariants.{HeldTool}
use Rattle.gl_script.proofs.Forming.{statements_are_formed}
use Rattle.gl_script.proofs.Saying.{said_is_spelled}
use Rattle.gl_talk.specs.Copied.{words_of, words_under_way}
use Rattle.gl_talk.specs.Readings.{CanStart}
use Rattle.gl_talk.specs.ToolWords.{can_be_started, kind_of, word_texts}
use Rattle.gl_talk.specs.UnderWay.{is_there, tells}
use Rattle.gl_talk.specs.Words.{behind_two, behind_three, bytes_in, bytes_said, is_command, is_on_file}
use Rattle.gl_talk.specs.declared.actions.SaidFormat.{SaidFormat}
use Rattle.gl_talk.specs.declared.copied.CopiedStatement.{CopiedStatement}
use Rattle.gl_talk.specs.declared.talk.Stage.TheVariants.{Waiting}
use Rattle.gl_talk.specs.declared.tools.StatementKind.{StatementKind}
use Rattle.gl_talk.specs.declared.tools.StatementKind.TheVariants.{Starting}
use Rattle.gl_talk.proofs.TypedActions.{kind_is}
use Rattle.gl_talk.proofs.WordReadings.{held_tools_are_read}

pub spelled : (copied : CopiedStatement) → Spells (words_of copied) copied.said
spelled copied = said_is_spelled (words_of copied) copied.said copied.read

pub formed : (copied : CopiedStatement) → AreFormed copied.said (words_of copied)
formed copied = statements_are_formed (words_of copied) copied.said copied.read

-- its words are there
some_words : (words : List Span) (said : Said) → said_of words ≡ Some said → 0 < length words
unfolding said_of
some_words [] said e = cc
some_words (word ∷ words) said e = omega arith

pub first_there : (copied : CopiedStatement) → 0 < length (words_of copied)
first_there copied = some_words (words_of copied) copied.said copied.read

second : (said : Said) (words : List Span) → is_on_file said ≡ true → AreFormed said words → 1 < length words
second (Ioctl command made) words e is = is.1.0
second (Events len) words e is = is.0
second (OldIoctl command made) words e is = is.1.0
second (OldEvents len) words e is = is.0
second (Changes len) words e is = is.0
second Poll words e is = is.0
second Close words e is = is.0
second said words e is = cc

pub second_there : (copied : CopiedStatement) → is_on_file copied.said ≡ true → 1 < length (words_of copied)
second_there copied e = second copied.said (words_of copied) e (formed copied)

third : (said : Said) (words : List Span) → kind_of (Some (keyword_said said)) ≡ Starting → AreFormed said words → IsWord HeldTool 2 words
third (Start name) words e is = is
third said words e is = cc

pub third_there : (copied : CopiedStatement) → kind_of (keyword_of (text_at 0 (words_of copied))) ≡ Starting → IsWord HeldTool 2 (words_of copied)
third_there copied e = third copied.said (words_of copied) (sym (kind_is (words_of copied) copied.said (spelled copied)) ∙ e) (formed copied)

-- the bytes of a command
bytes_by : (said : Said) (words : List Span) → is_command said ≡ true → bytes_in said words ≡ bytes_said (behind_three words)
bytes_by (Ioctl command made) words e = refl
bytes_by (OldIoctl command made) words e = refl
bytes_by said words e = cc

pub command_bytes : (copied : CopiedStatement) → is_command copied.said ≡ true → copied.bytes.items ≡ bytes_said (behind_three (words_of copied))
command_bytes copied e = sym copied.pieces ∙ bytes_by copied.said (words_of copied) e

-- the kind of the statement that is under way, by what it says
pub kind_under_way : (line : Option CopiedStatement) (copied : CopiedStatement) (kind : StatementKind) → words_under_way line ≡ words_of copied
    → kind_of (keyword_of (text_at 0 (words_under_way line))) ≡ kind → kind_of (Some (keyword_said copied.said)) ≡ kind
kind_under_way line copied kind same is =
    sym (kind_is (words_of copied) copied.said (spelled copied)) ∙ ap (λ (ws : List Span). kind_of (keyword_of (text_at 0 ws))) (sym same) ∙ is

pub kind_seen : (line : Option CopiedStatement) (copied : CopiedStatement) (found kind : StatementKind) → words_under_way line ≡ words_of copied
    → found ≡ kind_of (keyword_of (text_at 0 (words_of copied))) → found ≡ kind → kind_of (keyword_of (text_at 0 (words_under_way line))) ≡ kind
kind_seen line copied found kind same is arm = ap (λ (ws : List Span). kind_of (keyword_of (text_at 0 ws))) same ∙ sym is ∙ arm

-- a result that is awaited is told of the statement that is under way
pub line_there : (reply : SaidFormat) (line : Option CopiedStatement) → is_there (Waiting reply) line ≡ true → IsSome line
line_there reply None e = cc
line_there reply (Some copied) e = refl

pub line_tells : (reply : SaidFormat) (line : Option CopiedStatement) (copied : CopiedStatement) → line ≡ Some copied → is_there (Waiting reply) line ≡ true → tells reply copied.said ≡ true
line_tells reply line copied same e = subst (λ (l : Option CopiedStatement). is_there (Waiting reply) l ≡ true) same e

pub told_there : (reply : SaidFormat) (line : Option CopiedStatement) (copied : CopiedStatement) → line ≡ Some copied → tells reply copied.said ≡ true → is_there (Waiting reply) line ≡ true
told_there reply line copied same e = subst (λ (l : Option CopiedStatement). is_there (Waiting reply) l ≡ true) (sym same) e

-- the tool that is started goes on
same_tool : (a b : SaidTool) → Some a ≡ Some b → a ≡ b
same_tool a b e = cc

goes_on : (name : ToolName) (items : Option (List Item)) (tool : SaidTool) → ((is : List Item) → can_be_started (tool_by name is) ≡ true) → tool_of name items ≡ Some tool → can_be_started tool ≡ true
goes_on name None tool each e = cc
goes_on name (Some items) tool each e = subst (λ (s : SaidTool). can_be_started s ≡ true) (same_tool (tool_by name items) tool e) (each items)

by_name : (o : Option ToolName) (words : List (List ℕ)) (tool : SaidTool) → CanStart o → tool_behind o words ≡ Some tool → can_be_started tool ≡ true
by_name None words tool can e = absurd can
by_name (Some SetName) words tool can e = goes_on SetName (right_said SetName words) tool (λ items. refl) e
by_name (Some Watch) words tool can e = goes_on Watch (right_said Watch words) tool (λ items. refl) e
by_name (Some Notify) words tool can e = goes_on Notify (right_said Notify words) tool (λ items. refl) e
by_name (Some name) words tool can e = absurd can

pub started_goes_on : (words : List Span) (tool : SaidTool) → IsWord HeldTool 2 words → tool_said (word_texts (behind_two words)) ≡ Some tool → can_be_started tool ≡ true
started_goes_on [] tool held e = cc
started_goes_on (a ∷ []) tool held e = cc
started_goes_on (a ∷ b ∷ []) tool held e = cc
started_goes_on (a ∷ b ∷ word ∷ words) tool held e = by_name (tool_named word.text) (word_texts words) tool (held_tools_are_read word.text held.1) e
