-- The tools name their own two slots alone, and leave no file open but the request that a started gpioset holds.
use Rattle.std.proofs.Common.{◌≡◌, ◌≤◌, ◌+◌, ◌-◌, min, ℕ, zero, suc, Bool, true, false, cond, ◌&&◌, not, List, [], ◌∷◌, ◌++◌, Option, None, Some, refl, sym, ◌∙◌, arith}
use Rattle.std.specs.Prelude.{is_some, nat_eq}
use Rattle.gl_base.specs.declared.limits.TheConstants.{LINES_MAX}
use Rattle.gl_base.specs.declared.errno.Errno.{Errno}
use Rattle.gl_base.specs.Operation.{refusal, bytes_of}
use Rattle.gl_uapi.specs.declared.line_infos.Info.{Info}
use Rattle.gl_args.specs.declared.names.ToolName.TheVariants.{Get as GetName, Set as SetName}
use Rattle.gl_client.specs.OpenSlots.{AreApart, NamesOpenSlots, SameSlots, one_if, times, with_slot}
use Rattle.gl_args.specs.Options.{Options, SaidTool, SaidDetect, SaidInfo, SaidGet, SaidSet, SaidWatch, SaidNotify}
use Rattle.gl_client.specs.Program.{Program, done, print}
use Rattle.gl_client.proofs.OpenSlots.{Follows, counts, counts_with, follows_at, follows_then, names_open, with_one}
use Rattle.gl_lines.specs.declared.found_line.FoundLine.{FoundLine}
use Rattle.gl_lines.specs.Finding.{finds}
use Rattle.gl_lines.specs.FoundSlot.{found_slot}
use Rattle.gl_lines.proofs.FindingSlots.{finds_slots}
use Rattle.gl_values.specs.declared.chip.Chip.{Chip}
use Rattle.gl_values.specs.declared.set.Hold.{Hold}
use Rattle.gl_values.specs.declared.set.Hold.TheVariants.{No, Yes}
use Rattle.gl_values.specs.Chips.{chip_told, chip_head, is_absent, words_from, to_words}
use Rattle.gl_values.specs.Client.{holding_nothing, tool_program, held_program}
use Rattle.gl_values.specs.Detect.{detects}
use Rattle.gl_values.specs.Detect.{chips as detect_chips, opened as detect_opened, asked as detect_asked, told as detect_told, closed as detect_closed}
use Rattle.gl_values.specs.Get.{get, gets}
use Rattle.gl_values.specs.Get.{closed as get_closed, asked as get_asked}
use Rattle.gl_values.specs.Info.{infos, info_told, line_read, line_told, lines_from}
use Rattle.gl_values.specs.Info.{chips as info_chips, opened as info_opened, asked as info_asked, told_by as info_told_by, closed as info_closed}
use Rattle.gl_values.specs.InfoText.{line_text}
use Rattle.gl_values.specs.Set.{Held, behind, sets, closes, stops}
use Rattle.gl_values.specs.Set.{closed as set_closed}

-- the slot s is open n times before, and at most k times
module _ (s k n : ℕ) where
  abbrev Keeps : ℕ → Program (Unit {0}) → Type 0
  Keeps m p = Follows s k (λ _. n) m p

  -- the chip's slot is free
  module _ (base : ℕ) (room : n + one_if (nat_eq s base) ≤ k) where
    -- gpiodetect
    module _ (next : Program (Unit {0})) (later : Keeps n next) where
      goes_on_at : (m : ℕ) → m ≡ n → Keeps m next
      goes_on_at m e = follows_at s k (λ _. n) next n m (sym e) later

      detect_closed_at : (m : ℕ) (chip : Chip) (r : Option Errno) → m ≡ n → Keeps m (detect_closed chip next r)
      detect_closed_at m chip (Some errno) e = e
      detect_closed_at m chip None e = goes_on_at m e

      detect_told_at : (m : ℕ) (o : Option Chip) → m ≡ n + one_if (nat_eq s base) → Keeps m (detect_told base next o)
      detect_told_at m None e = (omega (arith, e), λ got kept. omega (arith, e))
      detect_told_at m (Some chip) e = (omega (arith, e), λ got kept. detect_closed_at (m - one_if (nat_eq s base)) chip (refusal got) (omega (arith, e)))

      detect_asked_at : (m : ℕ) (r : Option Errno) (bytes : List ℕ) → m ≡ n + one_if (nat_eq s base) → Keeps m (detect_asked base next r bytes)
      detect_asked_at m (Some errno) bytes e = (omega (arith, e), λ got kept. omega (arith, e))
      detect_asked_at m None bytes e = detect_told_at m (chip_told bytes) e

      passed_by : (m : ℕ) (b : Bool) (text : List ℕ) → m ≡ n → Keeps m (cond b next (print text (done tt)))
      passed_by m true text e = goes_on_at m e
      passed_by m false text e = e

      detect_opened_at : (named : Bool) (r : Option Errno) → Keeps (with_one s k r base n) (detect_opened base next named r)
      detect_opened_at named (Some errno) = passed_by n (is_absent errno && not named) _ (omega arith)
      detect_opened_at named None =
          ((omega arith, tt), λ got kept. detect_asked_at (n + one_if (nat_eq s base)) (refusal got) (bytes_of got) (omega arith))

      -- gpioinfo
      module _ (opts : Options) where
        info_closed_at : (m : ℕ) (text : List ℕ) (r : Option Errno) → m ≡ n → Keeps m (info_closed next text r)
        info_closed_at m text (Some errno) e = e
        info_closed_at m text None e = goes_on_at m e

        read_at : (m : ℕ) (rest : List ℕ → Program (Unit {0})) → ((text : List ℕ) → Keeps m (rest text)) → (offset : ℕ) (text : List ℕ) (o : Option Info) → m ≡ n + one_if (nat_eq s base)
            → Keeps m (line_read base opts rest offset text o)
        read_at m rest h offset text None e = (omega (arith, e), λ got kept. omega (arith, e))
        read_at m rest h offset text (Some info) e = h (text ++ line_text opts.unquoted offset info)

        line_at : (m : ℕ) (rest : List ℕ → Program (Unit {0})) → ((text : List ℕ) → Keeps m (rest text)) → (total left : ℕ) (text : List ℕ) (r : Option Errno) (bytes : List ℕ)
            → m ≡ n + one_if (nat_eq s base) → Keeps m (line_told base opts rest total left text r bytes)
        line_at m rest h total left text (Some errno) bytes e = (omega (arith, e), λ got kept. omega (arith, e))
        line_at m rest h total left text None bytes e = read_at m rest h (total - left - 1) text (info_told bytes) e

        lines_at : (total left m : ℕ) → m ≡ n + one_if (nat_eq s base) → (text : List ℕ) → Keeps m (lines_from base opts next total left text)
        lines_at total zero m e text = (omega (arith, e), λ got kept. info_closed_at (m - one_if (nat_eq s base)) text (refusal got) (omega (arith, e)))
        lines_at total (suc left) m e text =
            ((omega (arith, e), tt), λ got kept. line_at m (lines_from base opts next total left) (lines_at total left m e) total left text (refusal got) (bytes_of got) e)

        info_told_at : (m : ℕ) (o : Option Chip) → m ≡ n + one_if (nat_eq s base) → Keeps m (info_told_by base opts next o)
        info_told_at m None e = (omega (arith, e), λ got kept. omega (arith, e))
        info_told_at m (Some chip) e = lines_at (min chip.lines LINES_MAX) (min chip.lines LINES_MAX) m e (chip_head chip)

        info_asked_at : (m : ℕ) (r : Option Errno) (bytes : List ℕ) → m ≡ n + one_if (nat_eq s base) → Keeps m (info_asked base opts next r bytes)
        info_asked_at m (Some errno) bytes e = (omega (arith, e), λ got kept. omega (arith, e))
        info_asked_at m None bytes e = info_told_at m (chip_told bytes) e

        info_opened_at : (r : Option Errno) → Keeps (with_one s k r base n) (info_opened base opts next r)
        info_opened_at (Some errno) = passed_by n (is_absent errno && not (is_some opts.chip)) _ (omega arith)
        info_opened_at None = ((omega arith, tt), λ got kept. info_asked_at (n + one_if (nat_eq s base)) (refusal got) (bytes_of got) (omega arith))

    detect_chips_at : (named : Bool) (words : List (List ℕ)) → Keeps n (detect_chips base named words)
    detect_chips_at named [] = omega arith
    detect_chips_at named (word ∷ words) = (room, λ got kept. detect_opened_at (detect_chips base named words) (detect_chips_at named words) named (refusal got))

    detects_at : (words : List (List ℕ)) → Keeps n (detects base words)
    detects_at [] = detect_chips_at false (words_from [] 0)
    detects_at (word ∷ words) = detect_chips_at true (word ∷ words)

    info_chips_at : (opts : Options) (words : List (List ℕ)) → Keeps n (info_chips base opts words)
    info_chips_at opts [] = omega arith
    info_chips_at opts (word ∷ words) = (room, λ got kept. info_opened_at (info_chips base opts words) (info_chips_at opts words) opts (refusal got))

  -- gpioget
  got_closed_at : (m : ℕ) (opts : Options) (bits : ℕ) (r : Option Errno) → m ≡ n → Keeps m (get_closed opts bits r)
  got_closed_at m opts bits (Some errno) e = e
  got_closed_at m opts bits None e = e

  got_asked_at : (m made : ℕ) (opts : Options) (r : Option Errno) (bytes : List ℕ) → m ≡ n + one_if (nat_eq s made) → Keeps m (get_asked made opts r bytes)
  got_asked_at m made opts (Some errno) bytes e = (omega (arith, e), λ got kept. omega (arith, e))
  got_asked_at m made opts None bytes e = (omega (arith, e), λ got kept. got_closed_at (m - one_if (nat_eq s made)) opts _ (refusal got) (omega (arith, e)))

  get_at : (base made : ℕ) (opts : Options) (o : Option (List FoundLine)) → Keeps (counts s (found_slot GetName base made o) + n) (get made opts o)
  get_at base made opts None = omega arith
  get_at base made opts (Some found) =
      ((omega arith, tt), λ got kept. got_asked_at (one_if (nat_eq s made) + n) made opts (refusal got) (bytes_of got) (omega arith))

  gets_at : (base made : ℕ) (opts : Options) → n + one_if (nat_eq s base) + one_if (nat_eq s made) ≤ k → Keeps n (gets base made opts)
  gets_at base made opts room =
      follows_then s k (λ o. counts s (found_slot GetName base made o) + n) (λ _. n) (finds GetName base made opts) (get made opts) n (finds_slots s k n GetName base made opts room) (get_at base made opts)

  -- gpioset; `count` says how often s is open after it
  module _ (count : Held → ℕ) (none : count None ≡ n) where
    set_closed_at : (m : ℕ) (r : Option Errno) → m ≡ n → Follows s k count m (set_closed r)
    set_closed_at m (Some errno) e = e ∙ sym none
    set_closed_at m None e = e ∙ sym none

    set_closes_at : (m made : ℕ) → m ≡ n + one_if (nat_eq s made) → Follows s k count m (closes made)
    set_closes_at m made e = (omega (arith, e), λ got kept. set_closed_at (m - one_if (nat_eq s made)) (refusal got) (omega (arith, e)))

  abbrev KeepsHeld : ℕ → Program Held → Type 0
  KeepsHeld m p = Follows s k (λ held. counts s held + n) m p

  -- as a statement it closes its request, started it holds it
  alone_at : (base made : ℕ) (o : Option (List FoundLine)) → Follows s k (λ _. n) (counts s (found_slot SetName base made o) + n) (behind No made o)
  alone_at base made None = omega arith
  alone_at base made (Some found) = set_closes_at (λ _. n) refl (one_if (nat_eq s made) + n) made (omega arith)

  started_at : (base made : ℕ) (o : Option (List FoundLine)) → KeepsHeld (counts s (found_slot SetName base made o) + n) (behind Yes made o)
  started_at base made None = omega arith
  started_at base made (Some found) = omega arith

  sets_at : (hold : Hold) (count : Held → ℕ) (base made : ℕ) (opts : Options) → n + one_if (nat_eq s base) + one_if (nat_eq s made) ≤ k
      → ((o : Option (List FoundLine)) → Follows s k count (counts s (found_slot SetName base made o) + n) (behind hold made o)) → Follows s k count n (sets hold base made opts)
  sets_at hold count base made opts room h =
      follows_then s k (λ o. counts s (found_slot SetName base made o) + n) count (finds SetName base made opts) (behind hold made) n (finds_slots s k n SetName base made opts room) h

  abbrev KeepsNone : Program Held → Type 0
  KeepsNone p = Follows s k (λ _. n) n p

  holding_at : (p : Program (Unit {0})) → Keeps n p → KeepsNone (holding_nothing p)
  holding_at p h = follows_then s k (λ _. n) (λ _. n) p (λ _. done None) n h (λ value. refl)

  pub tool_at : (tool : SaidTool) (base : ℕ) → n + one_if (nat_eq s base) + one_if (nat_eq s (base + 1)) ≤ k → KeepsNone (tool_program tool base)
  tool_at (SaidDetect words) base room = holding_at (detects base words) (detects_at base (omega (arith, room)) words)
  tool_at (SaidInfo opts) base room = holding_at (infos base opts) (info_chips_at base (omega (arith, room)) opts (words_from (to_words opts.chip) 0))
  tool_at (SaidGet opts) base room = holding_at (gets base (base + 1) opts) (gets_at base (base + 1) opts room)
  tool_at (SaidSet opts) base room = sets_at No (λ _. n) base (base + 1) opts room (alone_at base (base + 1))
  tool_at (SaidWatch opts) base room = refl
  tool_at (SaidNotify opts) base room = refl

  pub held_at : (tool : SaidTool) (base : ℕ) → n + one_if (nat_eq s base) + one_if (nat_eq s (base + 1)) ≤ k → KeepsHeld n (held_program tool base)
  held_at (SaidDetect words) base room = omega arith
  held_at (SaidInfo opts) base room = omega arith
  held_at (SaidGet opts) base room = omega arith
  held_at (SaidSet opts) base room = sets_at Yes (λ held. counts s held + n) base (base + 1) opts room (started_at base (base + 1))
  held_at (SaidWatch opts) base room = omega arith
  held_at (SaidNotify opts) base room = omega arith

  pub stops_at : (held : Held) → KeepsHeld (counts s held + n) (stops held)
  stops_at None = omega arith
  stops_at (Some slot) = set_closes_at (λ held. counts s held + n) (omega arith) (one_if (nat_eq s slot) + n) slot (omega arith)

-- over all slots
module _ (slots : List ℕ) where
  abbrev LeavesOpen : Held → List ℕ → Type 0
  LeavesOpen held now = SameSlots now (with_slot held slots)

  leaves : (held : Held) (now : List ℕ) → ((s : ℕ) → times s now ≡ counts s held + times s slots) → LeavesOpen held now
  leaves held now same = λ s. same s ∙ sym (counts_with s held slots)

  pub tool_names : (tool : SaidTool) (base : ℕ) → AreApart (base ∷ (base + 1) ∷ slots) → NamesOpenSlots (λ _ now. SameSlots now slots) slots (tool_program tool base)
  tool_names tool base apart =
      names_open (λ s. times s (base ∷ (base + 1) ∷ slots)) (λ s held. times s slots) (λ _ now. SameSlots now slots) (tool_program tool base) slots apart (λ s. omega arith)
      (λ s. tool_at s (times s (base ∷ (base + 1) ∷ slots)) (times s slots) tool base (omega arith)) (λ held now same le. same)

  pub held_names : (tool : SaidTool) (base : ℕ) → AreApart (base ∷ (base + 1) ∷ slots) → NamesOpenSlots LeavesOpen slots (held_program tool base)
  held_names tool base apart =
      names_open (λ s. times s (base ∷ (base + 1) ∷ slots)) (λ s held. counts s held + times s slots) LeavesOpen (held_program tool base) slots apart (λ s. omega arith)
      (λ s. held_at s (times s (base ∷ (base + 1) ∷ slots)) (times s slots) tool base (omega arith)) (λ held now same le. leaves held now same)

  pub stop_names : (held : Held) → AreApart (with_slot held slots) → NamesOpenSlots LeavesOpen (with_slot held slots) (stops held)
  stop_names held apart =
      names_open (λ s. times s (with_slot held slots)) (λ s after. counts s after + times s slots) LeavesOpen (stops held) (with_slot held slots) apart (λ s. omega arith)
      (λ s. follows_at s (times s (with_slot held slots)) (λ after. counts s after + times s slots) (stops held) (counts s held + times s slots) (times s (with_slot held slots)) (sym (counts_with s held slots)) (stops_at s (times s (with_slot held slots)) (times s slots) held))
      (λ after now same le. leaves after now same)
