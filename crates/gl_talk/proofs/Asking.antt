-- A statement that is no tool's is refused, or asks for an operation whose result is told of it.
use Rattle.std.proofs.Common.{◌≡◌, ℕ, Bool, true, false, List, Option, None, Some, refl, sym, subst, ◌∙◌}
use Rattle.std.specs.List.{list_any}
use Rattle.std.specs.Prelude.{◌==◌, if◌then◌else◌, is_some, length, not}
use Rattle.gl_base.specs.Padded.{padded}
use Rattle.gl_base.specs.Words.{Span, text_at}
use Rattle.gl_base.specs.declared.command.TheConstants.{GET_CHIPINFO, GET_LINEINFO, GET_LINEINFO_WATCH, GET_LINE, LINE_GET_VALUES}
use Rattle.gl_base.specs.declared.errno.Errno.{Errno}
use Rattle.gl_base.specs.declared.errno.Errno.TheVariants.{Exist, Inval, Perm}
use Rattle.gl_base.specs.declared.operation.Do.TheVariants.{Aggregate as DoAggregate, ReadFile as DoReadFile}
use Rattle.gl_client.specs.Program.{Goes, Left}
use Rattle.gl_client.specs.declared.next.Next.{Next}
use Rattle.gl_script.specs.Said.{keyword_said}
use Rattle.gl_script.specs.declared.limits.TheConstants.{JOINED_MAX}
use Rattle.gl_script.specs.declared.said.Said.{Said}
use Rattle.gl_script.specs.declared.said.Said.TheVariants.{Write, Read, Aggregate, Open, Ioctl, Events, OldIoctl, OldEvents, Changes, Poll, Close, Detect, Info, Get, Set, Start, Step, Stop}
use Rattle.gl_talk.specs.declared.actions.SaidAction.{SaidAction}
use Rattle.gl_talk.specs.declared.actions.SaidAction.TheVariants.{Nothing, Refuse, Ask}
use Rattle.gl_talk.specs.declared.actions.SaidFormat.{SaidFormat}
use Rattle.gl_talk.specs.declared.actions.SaidFormat.TheVariants.{Silent, Bytes, Edges, Infos, Made, OldBytes, OldEdges, OldMade}
use Rattle.gl_talk.specs.declared.files.TalkFileKind.{TalkFileKind}
use Rattle.gl_talk.specs.declared.paths.LineFile.{LineFile}
use Rattle.gl_talk.specs.declared.tools.StatementKind.TheVariants.{Plain}
use Rattle.gl_talk.specs.Actions.{files_named, is_out_of_place, slots_of}
use Rattle.gl_talk.specs.Doing.{refused}
use Rattle.gl_talk.specs.Old.{kind_v1, made_kind, sent_new, sent_old}
use Rattle.gl_talk.specs.Open.{File, Names, file_of, is_chip, is_chip_file, is_old_event, is_request}
use Rattle.gl_talk.specs.Paths.{line_file, live_device}
use Rattle.gl_talk.specs.SaidActions.{action_said, action_said_here, aggregates_said, bytes_reply_said, closes_said, ioctls_bytes_said, ioctls_said, lives_said, old_bytes_reply_said, old_ioctls_bytes_said, old_ioctls_said, old_reply_said, opens_said, polls_said, pulls_said, reads_file_said, reads_said, reply_said, takes, writes_said, writes_tree_said}
use Rattle.gl_talk.specs.ToolWords.{kind_of}
use Rattle.gl_talk.specs.UnderWay.{asks, tells}
use Rattle.gl_talk.specs.Words.{behind_two, behind_three, bytes_said, is_command, live_word, pull_word}

module _ (said : Said) where
  asks_if : (test : Bool) (a b : SaidAction) → asks a said ≡ true → asks b said ≡ true → asks (if test then a else b) said ≡ true
  asks_if true a b p q = p
  asks_if false a b p q = q

  tells_if : (test : Bool) (a b : SaidFormat) → tells a said ≡ true → tells b said ≡ true → tells (if test then a else b) said ≡ true
  tells_if true a b p q = p
  tells_if false a b p q = q

  reads_ask : (o : Option LineFile) (path : List ℕ) → asks (reads_said o path) said ≡ true
  reads_ask None path = refl
  reads_ask (Some file) path = refl

  pulls_ask : (file : LineFile) (o : Option Bool) → asks (pulls_said file o) said ≡ true
  pulls_ask file None = refl
  pulls_ask file (Some up) = refl

  lives_ask : (device : List ℕ) (o : Option Bool) → asks (lives_said device o) said ≡ true
  lives_ask device None = refl
  lives_ask device (Some up) = refl

  tree_asks : (o : Option (List ℕ)) (path value : List ℕ) → asks (writes_tree_said o path value) said ≡ true
  tree_asks None path value = refl
  tree_asks (Some device) path value = lives_ask device (live_word value)

  writes_ask : (o : Option LineFile) (path value : List ℕ) → asks (writes_said o path value) said ≡ true
  writes_ask None path value = tree_asks (live_device path) path value
  writes_ask (Some file) path value = asks_if file.is_pull (pulls_said file (pull_word value)) (Refuse Perm) (pulls_ask file (pull_word value)) refl

  opens_ask : (taken : Bool) (slot : ℕ) (name word : List ℕ) → asks (opens_said taken slot name word) said ≡ true
  opens_ask true slot name word = refl
  opens_ask false slot name word = refl

  aggregates_ask : (label : List ℕ) (named : List (Option File)) → asks (aggregates_said label named) said ≡ true
  aggregates_ask label named =
      let joined = Ask (DoAggregate label (padded JOINED_MAX (slots_of named)) (length (slots_of named))) Silent in
      asks_if (list_any (λ (file : Option File). not (is_some file)) named) _ (if list_any is_chip_file named then Refuse Inval else joined) refl
      (asks_if (list_any is_chip_file named) (Refuse Inval) joined refl refl)

  reads_file_ask : (o : Option File) (can : TalkFileKind → Bool) (len : ℕ) (reply : SaidFormat) → tells reply said ≡ true → asks (reads_file_said o can len reply) said ≡ true
  reads_file_ask None can len reply is = refl
  reads_file_ask (Some file) can len reply is = asks_if (can file.kind) (Ask (DoReadFile file.slot len) reply) (Refuse Inval) is refl

  bytes_tell : (number : ℕ) → tells (bytes_reply_said number) said ≡ true
  bytes_tell number =
      tells_if (number == GET_CHIPINFO) (Bytes number) _ refl
      (tells_if (number == GET_LINEINFO) (Bytes number) _ refl (tells_if (number == GET_LINEINFO_WATCH) (Bytes number) _ refl (tells_if (number == LINE_GET_VALUES) (Bytes number) Silent refl refl)))

  reply_tells : (made : Option (List ℕ)) (number : ℕ) → tells (reply_said made number) said ≡ true
  reply_tells None number = bytes_tell number
  reply_tells (Some name) number = tells_if (number == GET_LINE) (Made name) (bytes_reply_said number) refl (bytes_tell number)

  ioctls_ask : (o : Option File) (slot command : ℕ) (made : Option (List ℕ)) (files : List File) (bytes : List ℕ) → asks (ioctls_said o slot command made files bytes) said ≡ true
  ioctls_ask None slot command made files bytes = refl
  ioctls_ask (Some file) slot command made files bytes =
      let sent = sent_new file.kind command bytes in
      asks_if (takes made files) (Refuse Exist) (ioctls_bytes_said file slot command made bytes) refl (reply_tells made sent.cmd)

  old_bytes_tell : (kind : TalkFileKind) (command number : ℕ) → is_command said ≡ true → tells (old_bytes_reply_said kind command number) said ≡ true
  old_bytes_tell kind command number is =
      let told = OldBytes (kind_v1 kind) command in
      tells_if (number == GET_CHIPINFO) told _ is (tells_if (number == GET_LINEINFO) told _ is (tells_if (number == LINE_GET_VALUES) told Silent is refl))

  old_reply_tells : (made : Option (List ℕ)) (kind : TalkFileKind) (command : ℕ) (bytes : List ℕ) (number : ℕ) → is_command said ≡ true → tells (old_reply_said made kind command bytes number) said ≡ true
  old_reply_tells None kind command bytes number is = old_bytes_tell kind command number is
  old_reply_tells (Some name) kind command bytes number is =
      tells_if (number == GET_LINE) (OldMade (made_kind command bytes) name) (old_bytes_reply_said kind command number) refl (old_bytes_tell kind command number is)

  old_ioctls_ask : (o : Option File) (slot command : ℕ) (made : Option (List ℕ)) (files : List File) (bytes : List ℕ) → is_command said ≡ true → asks (old_ioctls_said o slot command made files bytes) said ≡ true
  old_ioctls_ask None slot command made files bytes is = refl
  old_ioctls_ask (Some file) slot command made files bytes is =
      let sent = sent_old file.kind command bytes in
      asks_if (takes made files) (Refuse Exist) (old_ioctls_bytes_said file slot command made bytes) refl (old_reply_tells made file.kind command bytes sent.cmd is)

polls_ask : (o : Option File) → asks (polls_said o) Poll ≡ true
polls_ask None = refl
polls_ask (Some file) = refl

closes_ask : (o : Option File) → asks (closes_said o) Close ≡ true
closes_ask None = refl
closes_ask (Some file) = refl

row_asks : (said : Said) (files : List File) (slot : ℕ) (words : List Span) → kind_of (Some (keyword_said said)) ≡ Plain → asks (action_said said files slot words) said ≡ true
row_asks (Write path value) files slot words plain = writes_ask (Write path value) (line_file path) path value
row_asks (Read path) files slot words plain = reads_ask (Read path) (line_file path) path
row_asks (Aggregate label) files slot words plain = aggregates_ask (Aggregate label) label (files_named JOINED_MAX (behind_two words) files)
row_asks (Open name word) files slot words plain = opens_ask (Open name word) (is_some (file_of name files)) slot name word
row_asks (Ioctl command made) files slot words plain = ioctls_ask (Ioctl command made) (file_of (text_at 1 words) files) slot command made files (bytes_said (behind_three words))
row_asks (Events len) files slot words plain = reads_file_ask (Events len) (file_of (text_at 1 words) files) is_request len Edges refl
row_asks (OldIoctl command made) files slot words plain = old_ioctls_ask (OldIoctl command made) (file_of (text_at 1 words) files) slot command made files (bytes_said (behind_three words)) refl
row_asks (OldEvents len) files slot words plain = reads_file_ask (OldEvents len) (file_of (text_at 1 words) files) is_old_event _ OldEdges refl
row_asks (Changes len) files slot words plain = reads_file_ask (Changes len) (file_of (text_at 1 words) files) is_chip len Infos refl
row_asks Poll files slot words plain = polls_ask (file_of (text_at 1 words) files)
row_asks Close files slot words plain = closes_ask (file_of (text_at 1 words) files)
row_asks Detect files slot words plain = cc
row_asks Info files slot words plain = cc
row_asks Get files slot words plain = cc
row_asks Set files slot words plain = cc
row_asks (Start name) files slot words plain = cc
row_asks (Step name turns) files slot words plain = cc
row_asks (Stop name) files slot words plain = cc
row_asks said files slot words plain = refl

statement_asks : (in_setup : Bool) (said : Said) (files : List File) (slot : ℕ) (words : List Span) → kind_of (Some (keyword_said said)) ≡ Plain → asks (action_said_here in_setup said files slot words) said ≡ true
statement_asks in_setup said files slot words plain =
    asks_if said (is_out_of_place in_setup (Some (keyword_said said))) (Refuse Inval) (action_said said files slot words) refl (row_asks said files slot words plain)

pub asked : (in_setup : Bool) (said : Said) (files : List File) (slot : ℕ) (words : List Span) (action arm : SaidAction) → kind_of (Some (keyword_said said)) ≡ Plain
    → action ≡ action_said_here in_setup said files slot words → action ≡ arm → asks arm said ≡ true
asked in_setup said files slot words action arm plain says is = subst (λ (a : SaidAction). asks a said ≡ true) (sym says ∙ is) (statement_asks in_setup said files slot words plain)

pub never_nothing : (said : Said) → asks Nothing said ≡ true → ⊥
never_nothing said e = cc

-- a refusal is told by its error
pub refused_same : (said errno : Errno) (names : Names) (step : Next) (behind : Left Names) → said ≡ errno → Goes (refused said names) step behind → Goes (refused errno names) step behind
refused_same said errno names step behind same goes = subst (λ (e : Errno). Goes (refused e names) step behind) same goes
