-- What each step makes of what a pass knows.
use Rattle.std.specs.Prelude.{ℕ, ◌+◌, List, [], ◌∷◌, ◌++◌, cond, length, ltb, Some, None, true, false}
use Rattle.gl_world.specs.declared.history.Entry.{Entry}
use Rattle.gl_rule.specs.declared.view.View.{View}
use Rattle.gl_rule.specs.declared.view.Joined.{Joined}
use Rattle.gl_rule.specs.Sums.{without}

-- M C R G: the machine, its calls, its replies and its gifts
module _ {M C R G : Type 0} where
  -- a pass that has made no entry: its number, the room, what it has seen, how many passes were made, and the places that it knows closed and drained
  abbrev pub newcomer : ℕ → ℕ → List (Entry M C R G) → ℕ → List ℕ → List ℕ → View M C R G
  newcomer number room seen made closed drained = record { number = number; room = room; seen = seen; had_seen = seen; mine = []; ticket = None; turn = false; passed = 0; joined = []; made = made; inside = []; knocking = []; closed = closed; drained = drained; counted = 0; spent = false }

  -- a pass that was joined into another is nowhere and knows nothing
  abbrev pub joined_into_another : View M C R G
  joined_into_another = record { number = 0; room = 0; seen = []; had_seen = []; mine = []; ticket = None; turn = false; passed = 0; joined = []; made = 0; inside = []; knocking = []; closed = []; drained = []; counted = 0; spent = true }

  abbrev pub with_ticket : View M C R G → ℕ → View M C R G
  with_ticket v t = record v { ticket = Some t }

  -- it has the turn, and has seen all entries
  abbrev pub with_turn : View M C R G → List (Entry M C R G) → View M C R G
  with_turn v log = record v { seen = log; turn = true }

  -- its entry stands after all others, and its turn has ended
  abbrev pub with_entry : View M C R G → Entry M C R G → View M C R G
  with_entry v e = record v { seen = v.seen ++ e ∷ []; mine = v.mine ++ e ∷ []; ticket = None; turn = false }

  -- its turn has ended without an entry
  abbrev pub with_turn_passed : View M C R G → View M C R G
  with_turn_passed v = record v { ticket = None; turn = false; passed = v.passed + 1 }

  -- one more pass was made
  abbrev pub with_one_more : View M C R G → View M C R G
  with_one_more v = record v { made = v.made + 1 }

  abbrev pub as_joined : View M C R G → Joined M C R G
  as_joined v = record { number = v.number; mine = v.mine }

  -- the longer of two histories
  abbrev pub longer : List (Entry M C R G) → List (Entry M C R G) → List (Entry M C R G)
  longer xs ys = cond (ltb (length xs) (length ys)) ys xs

  -- the shorter of two histories
  abbrev pub shorter : List (Entry M C R G) → List (Entry M C R G) → List (Entry M C R G)
  shorter xs ys = cond (ltb (length xs) (length ys)) xs ys

  -- the first took in the second: the longer of what both have seen, the second's own entries, and what both know of places
  abbrev pub taking_in : View M C R G → View M C R G → View M C R G
  taking_in v w = record v { seen = longer v.seen w.seen; had_seen = shorter v.seen w.seen; passed = v.passed + w.passed; joined = v.joined ++ as_joined w ∷ w.joined; closed = v.closed ++ w.closed; drained = v.drained ++ w.drained }

  -- it is inside the place
  abbrev pub with_inside : View M C R G → ℕ → View M C R G
  with_inside v p = record v { inside = p ∷ v.inside }

  -- it is inside the place no more
  abbrev pub without_inside : View M C R G → ℕ → View M C R G
  without_inside v p = record v { inside = without p v.inside }

  -- it added itself to the guard, and found the place closed
  abbrev pub with_knock : View M C R G → ℕ → View M C R G
  with_knock v p = record v { knocking = p ∷ v.knocking; closed = p ∷ v.closed }

  abbrev pub without_knock : View M C R G → ℕ → View M C R G
  without_knock v p = record v { knocking = without p v.knocking }

  -- it knows the place closed
  abbrev pub with_closed : View M C R G → ℕ → View M C R G
  with_closed v p = record v { closed = p ∷ v.closed }

  -- its look at a guard found so many
  abbrev pub with_count : View M C R G → ℕ → View M C R G
  with_count v n = record v { counted = n }

  -- it found the place closed and nobody there
  abbrev pub with_drained : View M C R G → ℕ → View M C R G
  with_drained v p = record v { counted = 0; drained = p ∷ v.drained }
