-- What is left of a talk in which memory was wanted is what was left.
use Rattle.std.proofs.Common.{◌≡◌, ℕ, ◌*◌, List, refl, sym, ◌∙◌, ap}
use Rattle.gl_client.specs.Program.{done, then_left, waits}
use Rattle.gl_base.specs.Words.{Span}
use Rattle.gl_talk.specs.declared.talk.Stage.{Stage}
use Rattle.gl_talk.specs.declared.talk.Stage.TheVariants.{Idle, Begun, Waiting, Running, Holding, Watching, Quitting, Closing}
use Rattle.gl_talk.specs.declared.talk.Talk.{Talk}
use Rattle.gl_talk.specs.Copied.{words_under_way}
use Rattle.gl_talk.specs.Open.{Names}
use Rattle.gl_talk.specs.Talk.{StaysBegun, StaysLeft, closes_all, keeps_monitor, keeps_set, left, left_at, names_in, slot_in, words_in}

-- at each stage
at_stage : (old new : Talk) (names : Names) (slot : ℕ) (words : List Span) (stage : Stage) → StaysLeft old new → left_at new names slot words stage ≡ left_at old names slot words stage
at_stage old new names slot words Idle stays = refl
at_stage old new names slot words Begun stays = refl
at_stage old new names slot words (Waiting reply) stays = refl
at_stage old new names slot words Running stays = ap (λ l. then_left l (λ _. done names)) stays.client
at_stage old new names slot words (Holding name) stays = ap (λ l. then_left l (keeps_set name names)) stays.client
at_stage old new names slot words (Watching name) stays = ap (λ l. then_left l (keeps_monitor name names)) stays.monitor
at_stage old new names slot words Quitting stays = refl
at_stage old new names slot words Closing stays = ap (λ slots. waits (λ _. closes_all slots)) stays.closing

pub left_stays : (old new : Talk) → StaysLeft old new → left new ≡ left old
left_stays old new stays =
    ap (λ names. left_at new names (slot_in new) (words_in new) new.stage) stays.names
    ∙ ap (λ (begun : ℕ). left_at new (names_in old) (2 * begun) (words_in new) new.stage) stays.begun
    ∙ ap (λ line. left_at new (names_in old) (slot_in old) (words_under_way line) new.stage) stays.line
    ∙ ap (λ stage. left_at new (names_in old) (slot_in old) (words_in old) stage) stays.stage
    ∙ at_stage old new (names_in old) (slot_in old) (words_in old) old.stage stays

-- a statement that hasn't made its first step
pub begun_stays : (old new : Talk) → old.stage ≡ Begun → StaysBegun old new → left new ≡ left old
begun_stays old new begun stays =
    ap (λ names. left_at new names (slot_in new) (words_in new) new.stage) stays.names
    ∙ ap (λ (count : ℕ). left_at new (names_in old) (2 * count) (words_in new) new.stage) stays.begun
    ∙ ap (λ line. left_at new (names_in old) (slot_in old) (words_under_way line) new.stage) stays.line
    ∙ ap (λ stage. left_at new (names_in old) (slot_in old) (words_in old) stage) (stays.stage ∙ begun)
    ∙ ap (λ stage. left_at old (names_in old) (slot_in old) (words_in old) stage) (sym begun)
