-- Changes of lines leave it true that behind an offset no line has a name.
use Rattle.std.proofs.Common.{◌≡◌, ℕ, zero, suc, ◌+◌, ◌<◌, ◌≤◌, List, [], ◌∷◌, ◌++◌, length, drop, refl, sym, ap, subst, ◌∙◌, arith, append-nil}
use Rattle.std.specs.Prelude.{max, replicate, take}
use Rattle.std.proofs.lemmas.List.{drop_all, take_all}
use Rattle.std.proofs.Math.Nat.{le-max_left, le-max_right}
use Rattle.gl_base.specs.Positions.{change_at, change_each}
use Rattle.gl_desc.specs.Desc.{claimed, first_desc, freed, hogged, named, settled}
use Rattle.gl_desc.specs.Names.{NamesEndBy}
use Rattle.gl_desc.specs.declared.desc.Desc.{Desc}

-- a later offset does too
pub further : (lines : List Desc) (end later : ℕ) → end ≤ later → NamesEndBy lines end → NamesEndBy lines later
further [] end later le h = tt
further (line ∷ lines) zero zero le h = h
further (line ∷ lines) zero (suc later) le h = further lines zero later (omega arith) h.1
further (line ∷ lines) (suc end) zero le h = absurd (omega arith)
further (line ∷ lines) (suc end) (suc later) le h = further lines end later (omega arith) h

-- a line that keeps its name

kept_at : (f : Desc → Desc) → ((line : Desc) → (f line).name ≡ line.name) → (lines : List Desc) (end offset : ℕ) → NamesEndBy lines end → NamesEndBy (change_at first_desc offset f lines) end
kept_at f same [] end zero h = tt
kept_at f same [] end (suc offset) h = tt
kept_at f same (line ∷ lines) zero zero h = (same line ∙ h.0, h.1)
kept_at f same (line ∷ lines) zero (suc offset) h = (h.0, kept_at f same lines zero offset h.1)
kept_at f same (line ∷ lines) (suc end) zero h = h
kept_at f same (line ∷ lines) (suc end) (suc offset) h = kept_at f same lines end offset h

kept_each : (f : Desc → Desc) → ((line : Desc) → (f line).name ≡ line.name) → (offsets : List ℕ) (lines : List Desc) (end : ℕ) → NamesEndBy lines end → NamesEndBy (change_each first_desc offsets f lines) end
kept_each f same [] lines end h = h
kept_each f same (offset ∷ offsets) lines end h = kept_each f same offsets (change_at first_desc offset f lines) end (kept_at f same lines end offset h)

pub names_claimed : (fd : ℕ) (consumer : List ℕ) (offsets : List ℕ) (lines : List Desc) (end : ℕ) → NamesEndBy lines end → NamesEndBy (change_each first_desc offsets (claimed fd consumer) lines) end
names_claimed fd consumer offsets lines end h = kept_each (claimed fd consumer) (λ line. refl) offsets lines end h

pub names_settled : (offsets : List ℕ) (lines : List Desc) (end : ℕ) → NamesEndBy lines end → NamesEndBy (change_each first_desc offsets settled lines) end
names_settled offsets lines end h = kept_each settled (λ line. refl) offsets lines end h

pub names_freed : (offsets : List ℕ) (lines : List Desc) (end : ℕ) → NamesEndBy lines end → NamesEndBy (change_each first_desc offsets freed lines) end
names_freed offsets lines end h = kept_each freed (λ line. refl) offsets lines end h

pub names_hogged : (consumer : List ℕ) (offset : ℕ) (lines : List Desc) (end : ℕ) → NamesEndBy lines end → NamesEndBy (change_at first_desc offset (hogged consumer) lines) end
names_hogged consumer offset lines end h = kept_at (hogged consumer) (λ line. refl) lines end offset h

-- a line that is named

changed_before : (f : Desc → Desc) (lines : List Desc) (end offset : ℕ) → offset < end → NamesEndBy lines end → NamesEndBy (change_at first_desc offset f lines) end
changed_before f [] end zero lt h = tt
changed_before f [] end (suc offset) lt h = tt
changed_before f (line ∷ lines) zero offset lt h = absurd (omega arith)
changed_before f (line ∷ lines) (suc end) zero lt h = h
changed_before f (line ∷ lines) (suc end) (suc offset) lt h = changed_before f lines end offset (omega arith) h

pub names_more : (name : List ℕ) (offset : ℕ) (lines : List Desc) (end : ℕ) → NamesEndBy lines end → NamesEndBy (change_at first_desc offset (named name) lines) (max end (offset + 1))
names_more name offset lines end h =
    let right : offset + 1 ≤ max end (offset + 1) = le-max_right end (offset + 1) in
    changed_before (named name) lines (max end (offset + 1)) offset (omega (arith, right)) (further lines end (max end (offset + 1)) (le-max_left end (offset + 1)) h)

-- lines that were written back, as many as there are

pub written : (len : ℕ) (old new : List Desc) (end : ℕ) → length new ≡ length old → length old ≡ len → NamesEndBy new end → NamesEndBy (take len (new ++ drop (length new) old)) end
written len old new end as_many whole h =
    let rest : drop (length new) old ≡ [] = drop_all (length new) old (omega (arith, as_many)) in
    let all : take len (new ++ drop (length new) old) ≡ new = ap (λ (l : List Desc). take len (new ++ l)) rest ∙ ap (λ (l : List Desc). take len l) (append-nil new) ∙ take_all len new (omega (arith, as_many, whole)) in
    subst (λ (l : List Desc). NamesEndBy l end) (sym all) h

-- lines that are new

new_lines : (count end : ℕ) → NamesEndBy (replicate count first_desc) end
new_lines zero end = tt
new_lines (suc count) zero = (refl, new_lines count zero)
new_lines (suc count) (suc end) = new_lines count end

pub names_fitted : (kept more : ℕ) (lines : List Desc) (end : ℕ) → NamesEndBy lines end → NamesEndBy (take kept lines ++ replicate more first_desc) end
names_fitted zero more lines end h = new_lines more end
names_fitted (suc kept) more [] end h = new_lines more end
names_fitted (suc kept) more (line ∷ lines) zero h = (h.0, names_fitted kept more lines zero h.1)
names_fitted (suc kept) more (line ∷ lines) (suc end) h = names_fitted kept more lines end h

pub ruleset kept = (names_claimed, names_settled, names_freed, names_hogged, names_more, names_fitted)
