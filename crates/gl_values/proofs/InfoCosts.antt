-- What gpioinfo costs.
use Rattle.std.proofs.Common.{◌≡◌, ◌≤◌, ◌+◌, ◌-◌, ◌*◌, min, ℕ, zero, suc, Bool, true, false, cond, ◌&&◌, not, List, [], ◌∷◌, ◌++◌, length, Option, None, Some, refl, subst, arith}
use Rattle.std.specs.Prelude.{is_some}
use Rattle.gl_base.specs.declared.limits.TheConstants.{LINES_MAX}
use Rattle.gl_base.specs.declared.errno.Errno.{Errno}
use Rattle.gl_base.specs.Operation.{refusal, bytes_of}
use Rattle.gl_uapi.specs.declared.line_infos.Info.{Info}
use Rattle.gl_args.specs.Options.{Options}
use Rattle.gl_client.specs.Program.{Program, done, print}
use Rattle.gl_client.specs.Costs.{CostsAtMost}
use Rattle.gl_client.proofs.Costs.{costs_more}
use Rattle.gl_values.specs.declared.chip.Chip.{Chip}
use Rattle.gl_values.specs.Chips.{chip_told, chip_head, is_absent, words_from, to_words}
use Rattle.gl_values.specs.Costs.{info_cost}
use Rattle.gl_values.specs.Info.{chips, opened, asked, told_by, lines_from, line_told, line_read, closed, infos, info_told}
use Rattle.gl_values.specs.InfoText.{line_text}

module _ (n : ℕ) (next : Program (Unit {0})) (later : CostsAtMost n next) (base : ℕ) (opts : Options) where
  closed_within : (m : ℕ) → n ≤ m → (text : List ℕ) (r : Option Errno) → CostsAtMost m (closed next text r)
  closed_within m le text (Some errno) = tt
  closed_within m le text None = costs_more next n m le later

  read_within : (m : ℕ) (rest : List ℕ → Program (Unit {0})) → ((text : List ℕ) → CostsAtMost m (rest text)) → (offset : ℕ) (text : List ℕ) (o : Option Info)
      → CostsAtMost m (line_read base opts rest offset text o)
  read_within m rest h offset text None = (omega arith, λ got. tt)
  read_within m rest h offset text (Some info) = h (text ++ line_text opts.unquoted offset info)

  line_within : (m : ℕ) (rest : List ℕ → Program (Unit {0})) → ((text : List ℕ) → CostsAtMost m (rest text)) → (total left : ℕ) (text : List ℕ) (r : Option Errno)
      (bytes : List ℕ) → CostsAtMost m (line_told base opts rest total left text r bytes)
  line_within m rest h total left text (Some errno) bytes = (omega arith, λ got. tt)
  line_within m rest h total left text None bytes = read_within m rest h (total - left - 1) text (info_told bytes)

  lines_within : (total left m : ℕ) → n + left ≤ m → (text : List ℕ) → CostsAtMost m (lines_from base opts next total left text)
  lines_within total zero m le text = (omega arith, λ got. closed_within (m - 0) (omega arith) text (refusal got))
  lines_within total (suc left) m le text = (
    omega arith,
    λ got. line_within (m - 1) (lines_from base opts next total left) (lines_within total left (m - 1) (omega arith)) total left text (refusal got) (bytes_of got),
  )

  told_within : (m : ℕ) → n + LINES_MAX ≤ m → (o : Option Chip) → CostsAtMost m (told_by base opts next o)
  told_within m le None = (omega arith, λ got. tt)
  told_within m le (Some chip) = lines_within (min chip.lines LINES_MAX) (min chip.lines LINES_MAX) m (omega arith) (chip_head chip)

  asked_within : (m : ℕ) → n + LINES_MAX ≤ m → (r : Option Errno) (bytes : List ℕ) → CostsAtMost m (asked base opts next r bytes)
  asked_within m le (Some errno) bytes = (omega arith, λ got. tt)
  asked_within m le None bytes = told_within m le (chip_told bytes)

  passed_by : (m : ℕ) → n ≤ m → (b : Bool) (text : List ℕ) → CostsAtMost m (cond b next (print text (done tt)))
  passed_by m le true text = costs_more next n m le later
  passed_by m le false text = tt

  opened_within : (m : ℕ) → n + LINES_MAX + 1 ≤ m → (r : Option Errno) → CostsAtMost m (opened base opts next r)
  opened_within m le (Some errno) = passed_by m (omega arith) (is_absent errno && not (is_some opts.chip)) _
  opened_within m le None = (omega arith, λ got. asked_within (m - 1) (omega arith) (refusal got) (bytes_of got))

chips_within : (base : ℕ) (opts : Options) (words : List (List ℕ)) → CostsAtMost ((LINES_MAX + 3) * length words) (chips base opts words)
chips_within base opts [] = tt
chips_within base opts (word ∷ words) = (
  omega arith,
  λ got. opened_within ((LINES_MAX + 3) * length words) (chips base opts words) (chips_within base opts words) base opts ((LINES_MAX + 3) * suc (length words) - 2) (omega arith) (refusal got),
)

infos_by : (o : Option (List ℕ)) → (LINES_MAX + 3) * length (words_from (to_words o) 0) ≡ info_cost o
infos_by None = refl
infos_by (Some chip) = refl

pub infos_within : (base : ℕ) (opts : Options) → CostsAtMost (info_cost opts.chip) (infos base opts)
infos_within base opts =
    let words = words_from (to_words opts.chip) 0 in
    subst (λ k. CostsAtMost k (infos base opts)) (infos_by opts.chip) (chips_within base opts words)
