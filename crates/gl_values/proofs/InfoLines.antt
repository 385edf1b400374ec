-- The lines of a chip, one after the other.
use Rattle.std.proofs.Common.{◌≡◌, ◌<◌, ℕ, suc, ◌-◌, List, ap, ◌∙◌, arith}
use Rattle.gl_base.specs.declared.command.TheConstants.{GET_LINEINFO}
use Rattle.gl_base.specs.declared.operation.Do.TheVariants.{Ioctl, Close}
use Rattle.gl_base.specs.Operation.{refusal, bytes_of}
use Rattle.gl_args.specs.Options.{Options}
use Rattle.gl_client.specs.Program.{Program, ask}
use Rattle.gl_lines.specs.Bytes.{info_sent}
use Rattle.gl_values.specs.Info.{lines_from, line_told, closed}

pub no_lines : (base : ℕ) (opts : Options) (next : Program (Unit {0})) (total left : ℕ) (text : List ℕ) → left ≡ 0
    → lines_from base opts next total left text ≡ ask (Close base) (λ got. closed next text (refusal got))
no_lines base opts next total left text e = ap (λ n. lines_from base opts next total n text) e

one_line : (base : ℕ) (opts : Options) (next : Program (Unit {0})) (total left n : ℕ) (text : List ℕ) → left ≡ suc n
    → lines_from base opts next total left text
    ≡ ask (Ioctl base GET_LINEINFO 256 (info_sent (total - left)) 0) (λ got. line_told base opts (lines_from base opts next total n) total n text (refusal got) (bytes_of got))
one_line base opts next total left n text e =
    ap (λ k. lines_from base opts next total k text) e
    ∙ ap (λ k. ask (Ioctl base GET_LINEINFO 256 (info_sent k) 0) (λ got. line_told base opts (lines_from base opts next total n) total n text (refusal got) (bytes_of got))) (let e' : total - n - 1 ≡ total - left = omega arith in e')

pub some_line : (base : ℕ) (opts : Options) (next : Program (Unit {0})) (total left : ℕ) (text : List ℕ) → 0 < left
    → lines_from base opts next total left text
    ≡ ask (Ioctl base GET_LINEINFO 256 (info_sent (total - left)) 0)
    (λ got. line_told base opts (lines_from base opts next total (left - 1)) total (left - 1) text (refusal got) (bytes_of got))
some_line base opts next total left text h = one_line base opts next total left (left - 1) text (omega arith)

pub ruleset lines = (no_lines, some_line)
