-- What a state becomes over a list of entries, where a relation says what it becomes with one.
use Rattle.std.proofs.Common.{◌≡◌, List, [], ◌∷◌, ◌++◌, refl, sym, subst}

module _ {S E : Type 0} (Moves : S → E → S → Type 0) where
  -- the state before and after some entries
  abbrev pub Leads : S → List E → S → Type 0
  Leads old [] new = old ≡ new
  Leads old (e ∷ es) new = (next : S) × Moves old e next × Leads next es new

  pub leads_on : (old next new : S) (xs ys : List E) → Leads old xs next → Leads next ys new → Leads old (xs ++ ys) new
  leads_on old next new [] ys first rest = subst (λ o. Leads o ys new) (sym first) rest
  leads_on old next new (x ∷ xs) ys first rest = (first.0, first.1, leads_on first.0 next new xs ys first.2 rest)

  -- the state between the first entries and the others
  pub leads_to : (old new : S) (xs ys : List E) → Leads old (xs ++ ys) new → (next : S) × Leads old xs next × Leads next ys new
  leads_to old new [] ys all = (old, refl, all)
  leads_to old new (x ∷ xs) ys all = let rest = leads_to all.0 new xs ys all.2 in (rest.0, (all.0, all.1, rest.1), rest.2)
