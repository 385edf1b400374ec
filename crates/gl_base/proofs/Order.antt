-- Taking the first row of an order again and again is the order.
use Rattle.std.proofs.Common.{◌≡◌, Bool, true, false, cond, List, [], ◌∷◌, Option, Some, refl, ap, ◌∙◌}
use Rattle.std.specs.List.{find}
use Rattle.gl_base.specs.Rows.{without_first}
use Rattle.gl_base.specs.Ordered.{put_in_order, ordered, IsBeforeAll}

module _ {X : Type 0} where
  before-put : (before : X → X → Bool) (x y : X) (ys : List X) → before x y ≡ true → before y x ≡ false → IsBeforeAll before x ys → IsBeforeAll before x (put_in_order before y ys)
  before-put before x y [] a b h = (a, b, tt)
  before-put before x y (z ∷ zs) a b h = elim (before y z) as (λ t. IsBeforeAll before x (cond t (y ∷ z ∷ zs) (z ∷ put_in_order before y zs))) [ true ↦ (a, b, h) | false ↦ (h.0, h.1, before-put before x y zs a b h.2) ]

  before-ordered : (before : X → X → Bool) (x : X) (ys : List X) → IsBeforeAll before x ys → IsBeforeAll before x (ordered before ys)
  before-ordered before x [] h = tt
  before-ordered before x (y ∷ ys) h = before-put before x y (ordered before ys) h.0 h.1 (before-ordered before x ys h.2)

  put-first : (before : X → X → Bool) (x : X) (ys : List X) → IsBeforeAll before x ys → put_in_order before x ys ≡ x ∷ ys
  put-first before x [] h = refl
  put-first before x (y ∷ ys) h = ap (λ t. cond t (x ∷ y ∷ ys) (y ∷ put_in_order before x ys)) h.0

  order_step : (before : X → X → Bool) (b : Bool) (z x : X) (zs ws : List X) (o : Option X) → cond b (Some z) o ≡ Some x → IsBeforeAll before x (cond b zs (z ∷ ws)) → (o ≡ Some x → IsBeforeAll before x ws → ordered before zs ≡ x ∷ ordered before ws) → ordered before (z ∷ zs) ≡ x ∷ ordered before (cond b zs (z ∷ ws))
  order_step before true z x zs ws o e h later = let same : z ≡ x = cc in ap (λ y. put_in_order before y (ordered before zs)) same ∙ put-first before x (ordered before zs) (before-ordered before x zs h)
  order_step before false z x zs ws o e h later = ap (put_in_order before z) (later e h.2) ∙ ap (λ t. cond t (z ∷ x ∷ ordered before ws) (x ∷ put_in_order before z (ordered before ws))) h.1

  -- the row that comes before all others stands first, and the others keep their order
  pub ordered-first : (before : X → X → Bool) (test : X → Bool) (x : X) (xs : List X) → find test xs ≡ Some x → IsBeforeAll before x (without_first test xs) → ordered before xs ≡ x ∷ ordered before (without_first test xs)
  ordered-first before test x [] e h = cc
  ordered-first before test x (z ∷ zs) e h = order_step before (test z) z x zs (without_first test zs) (find test zs) e h (λ q r. ordered-first before test x zs q r)
