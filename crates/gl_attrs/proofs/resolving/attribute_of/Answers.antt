use Rattle.std.proofs.Common.{ℕ, Bool, false, ◌≡◌, ◌+◌, ◌*◌, List, Some, ap, sym, ◌∙◌, min}
use Rattle.gl_uapi.specs.Fields.{stretch}
use Rattle.gl_uapi.specs.LineConfig.{Attribute, attribute_in}
use Rattle.gl_attrs.specs.Setting.{attribute_for, covers, num_attrs}
use Rattle.gl_attrs.proofs.Searching.{covers-other_kind, covers-other_lines, covers-this, found_from, found_from-end, found_from-here, found_from-passed}
use Rattle.gl_attrs.proofs.resolving.attribute_of.Goals as goal
use Rattle.gl_attrs.proofs.resolving.attribute_of.Goals.{else-id-via-then-id+else-has_bit, else-id-via-else-id}

-- the whole search is that of the definition
whole : (id i : ℕ) (config : List ℕ) (count read : ℕ) → count ≡ min read 10 → read ≡ num_attrs config → found_from (covers id i) config 0 count ≡ attribute_for id config i
unfolding found_from
whole id i config count read least is = ap (λ n. found_from (covers id i) config 0 n) (least ∙ ap (λ n. min n 10) is)

pub loop-k-preserved : goal.loop-k-preserved
loop-k-preserved c =
    let id : ℕ = c.args.id in
    let i : ℕ = c.args.i in
    let config : List ℕ = c.args.config.now in
    let k : ℕ = c.loop-k.k in
    let n : ℕ = c.min-count.result in
    let here : List ℕ = stretch (32 + 24 * k) 24 config in
    let other : covers id i (attribute_in here) ≡ false =
    elim c.else-id.branch [
      | else-id-via-then-id+else-has_bit w ↦
          covers-other_lines id i here c.attr-attribute.result w.mask.result w.has_bit.result c.attr-attribute.ensures w.mask.ensures w.has_bit.ensures w.if-has_bit.false
      | else-id-via-else-id w ↦ covers-other_kind id i here c.attr-attribute.result c.id.result c.attr-attribute.ensures c.id.ensures w.if-id.false
    ] in
    sym (found_from-passed (covers id i) config k n c.loop-k-test.true other) ∙ c.loop-k.invariant

pub returns-then-has_bit : goal.returns-then-has_bit
returns-then-has_bit c =
    let id : ℕ = c.args.id in
    let i : ℕ = c.args.i in
    let config : List ℕ = c.args.config.now in
    let k : ℕ = c.loop-k.k in
    let n : ℕ = c.min-count.result in
    let here : List ℕ = stretch (32 + 24 * k) 24 config in
    let this = covers-this id i here c.attr-attribute.result c.id.result c.mask.result c.has_bit.result c.attr-attribute.ensures c.id.ensures c.if-id.true c.mask.ensures c.has_bit.ensures c.if-has_bit.true in
    ap (λ (bytes : List ℕ). Some (attribute_in bytes)) c.attr-attribute.ensures
    ∙ sym (found_from-here (covers id i) config k n c.loop-k-test.true this) ∙ c.loop-k.invariant
    ∙ whole id i config n c.num_attrs.result c.min-count.ensures c.num_attrs.ensures

pub returns : goal.returns
returns c =
    let test : Attribute → Bool = covers c.args.id c.args.i in
    sym (found_from-end test c.args.config.now c.loop-k.k c.min-count.result c.loop-k-test.false) ∙ c.loop-k.invariant
    ∙ whole c.args.id c.args.i c.args.config.now c.min-count.result c.num_attrs.result c.min-count.ensures c.num_attrs.ensures
