-- What a call moved, and what it left, are together what was left before.
use Rattle.std.proofs.Common.{◌≡◌, ◌++◌, ◌+◌, take, drop, ℕ, List, sym, ap}
use Rattle.std.proofs.lemmas.List.{take-append-drop, drop-drop}
use Rattle.gl_io.specs.Memory.{MemorySource}
use Rattle.gl_io.proofs.memory_source.MemSourceSource.take.Goals as goal

moved : (left bytes slice rest buffer : List ℕ) (at n : ℕ) → drop at bytes ≡ left → slice ≡ bytes → rest ≡ drop at slice →
    take n buffer ≡ take n rest → left ≡ take n buffer ++ drop (at + n) bytes
moved left bytes slice rest buffer at n is_left is_slice is_rest is_front =
    rw (is_front, is_rest, is_slice, ← drop-drop n at bytes, take-append-drop n (drop at bytes)) (sym is_left)

pub returns-clause-taken : goal.returns-clause-taken
returns-clause-taken c =
    moved c.args.self.now.left c.self.inside.bytes.items c.deref-2.result.now c.split_at.result.1.now c.copy_front-count.new.to
    c.self.inside.at c.copy_front-count.result
    (ap (λ (s : MemorySource). s.left) c.self.view_is) c.deref-2.ensures.value c.split_at.ensures.back c.copy_front-count.ensures.front
