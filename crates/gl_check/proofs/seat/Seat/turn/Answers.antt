use Rattle.std.proofs.Common.{◌≡◌, ◌≤◌, ℕ, List, Option, length, map, subst, sym, ◌∙◌}
use Rattle.std.proofs.lemmas.Bool.{false≢true, true≢false}
use Rattle.std.proofs.lemmas.List.{length-map}
use Rattle.gl_base.specs.Words.{Span}
use Rattle.gl_base.specs.declared.operation.Got.{Got}
use Rattle.gl_client.specs.Program.{Goes, done, given, goes_on, then_left}
use Rattle.gl_client.specs.declared.next.Next.TheVariants.{Call, Print}
use Rattle.gl_script.specs.declared.section.Statement.{Statement}
use Rattle.gl_talk.specs.Over.{columns_in}
use Rattle.gl_talk.specs.Talk.{left, names_in}
use Rattle.gl_talk.specs.declared.talk.Talk.{Talk}
use Rattle.gl_check.specs.Seating.{IsAskedAs}
use Rattle.gl_check.specs.declared.started.Started.{Started}
use Rattle.gl_check.specs.declared.started.Started.TheVariants.{Done, Calls}
use Rattle.gl_check.proofs.Turning.{asks_on, ends_on, goes_behind, prints_on}
use Rattle.gl_check.proofs.seat.Seat.turn.Goals as goal

-- as many statements were begun as before, and there are as many lists of words as statements
begun_within : (statements : List Statement) (n : ℕ) → n ≤ length statements → n ≤ length (map columns_in statements)
begun_within statements n few = subst (λ m. n ≤ m) (sym (length-map statements columns_in)) few

still_within : (words : List (List Span)) {m n : ℕ} → m ≡ n → n ≤ length words → m ≤ length words
still_within words same few = subst (λ k. k ≤ length words) (sym same) few

pub returns-in-Ok-Done-clause-more : goal.returns-in-Ok-Done-clause-more
returns-in-Ok-Done-clause-more c = λ _.
    let s = c.args.self.now in
    asks_on c.args.quit (map columns_in c.args.statements.now) s.talk c.next.new.self s.closes c.args.got.now s.rows.items s.port s.text.items c.in-Ok-Call.ensures.counted
    c.in-Ok-Call.what (Done c.in-Ok-Done.result_of) c.ask.new.rows.items c.ask.new.port
    (λ f. subst (λ (got : Option Got). Goes (given (then_left (left s.talk) f) got) (Call c.in-Ok-Call.what) (then_left (left c.next.new.self) f)) c.as_ref.ensures.value
    (rw c.in-Ok-Call.field-0-is at (c.in-Ok-Call.ensures.in_front f)))
    (λ l t on. rw c.in-Ok-Done.field-0-is at (c.in-Ok-Done.ensures.goes l t on))

pub returns-in-Ok-Calls-clause-stands : goal.returns-in-Ok-Calls-clause-stands
returns-in-Ok-Calls-clause-stands c = λ _.
    let s = c.args.self.now in
    asks_on c.args.quit (map columns_in c.args.statements.now) s.talk c.next.new.self s.closes c.args.got.now s.rows.items s.port s.text.items c.in-Ok-Call.ensures.counted
    c.in-Ok-Call.what (Calls c.in-Ok-Calls.first) c.ask.new.rows.items c.ask.new.port
    (λ f. subst (λ (got : Option Got). Goes (given (then_left (left s.talk) f) got) (Call c.in-Ok-Call.what) (then_left (left c.next.new.self) f)) c.as_ref.ensures.value
    (rw c.in-Ok-Call.field-0-is at (c.in-Ok-Call.ensures.in_front f)))
    (λ l t on. rw c.in-Ok-Calls.field-0-is at (c.in-Ok-Calls.ensures.goes l t on))

pub returns-in-Ok-clause-more : goal.returns-in-Ok-clause-more
returns-in-Ok-clause-more c = λ _.
    let s = c.args.self.now in
    prints_on c.args.quit (map columns_in c.args.statements.now) s.talk c.next.new.self s.closes c.args.got.now s.rows.items s.port s.text.items c.in-Ok-Print.ensures.counted
    c.in-Ok-Print.piece c.extend_from_slice.new.self.items (rw c.as_slice.ensures at c.in-Ok.ensures.items)
    (λ f. subst (λ (got : Option Got). Goes (given (then_left (left s.talk) f) got) (Print c.in-Ok-Print.piece) (then_left (left c.next.new.self) f)) c.as_ref.ensures.value
    (rw c.in-Ok-Print.field-0-is at (c.in-Ok-Print.ensures.in_front f)))

pub returns-in-Ok-true-clause-going : goal.returns-in-Ok-true-clause-going
returns-in-Ok-true-clause-going c = record {
  rows = c.requires.going.rows;
  begun = begun_within c.args.statements.now _ c.in-Ok-true.ensures.begun;
  stays_open = c.in-Ok-true.ensures.stays_open;
}

pub returns-in-Ok-false-clause-kept : goal.returns-in-Ok-false-clause-kept
returns-in-Ok-false-clause-kept c = λ _.
    let stays = c.in-Ok-false.ensures.stays c.in-Ok-false.field-0-test in record {
      going = record {
        rows = c.requires.going.rows;
        begun = begun_within c.args.statements.now _ c.in-Ok-false.ensures.begun;
        stays_open = c.in-Ok-false.ensures.stays_open;
      };
      asked = tt;
      ended = λ _. record {
        rests = subst (λ (t : Talk). left t ≡ goes_on (done (names_in t))) (sym stays.0) (rw c.in-Ok-End.field-0-is at c.in-Ok-End.ensures.rests);
        all = λ unclosed. c.in-Ok-false.ensures.all c.in-Ok-false.field-0-test unclosed ∙ sym (length-map c.args.statements.now columns_in);
      };
    }

pub returns-in-Ok-Calls-clause-kept : goal.returns-in-Ok-Calls-clause-kept
returns-in-Ok-Calls-clause-kept c = λ _. record {
  going = record {
    rows = c.in-Ok-Calls.ensures.rows;
    begun = still_within (map columns_in c.args.statements.now) c.in-Ok-Call.ensures.counted c.requires.going.begun;
    stays_open = c.requires.going.stays_open;
  };
  asked = subst (λ (asked : Started). IsAskedAs c.in-Ok-Call.what asked) c.in-Ok-Calls.field-0-is c.in-Ok-Calls.ensures.asked;
  ended = λ never. absurd (false≢true never);
}

pub returns-in-Ok-clause-kept : goal.returns-in-Ok-clause-kept
returns-in-Ok-clause-kept c = λ never. absurd (true≢false never)

pub returns-in-Ok-false-clause-stands : goal.returns-in-Ok-false-clause-stands
returns-in-Ok-false-clause-stands c = λ _.
    let s = c.args.self.now in
    let stays = c.in-Ok-false.ensures.stays c.in-Ok-false.field-0-test in
    ends_on c.args.quit (map columns_in c.args.statements.now) s.talk c.next.new.self s.closes c.args.got.now s.rows.items s.port s.text.items c.in-Ok-End.ensures.counted
    c.go_on.new.talk c.go_on.new.closes _ c.as_ref.ensures.value (λ f. rw c.in-Ok-End.field-0-is at (c.in-Ok-End.ensures.in_front f)) stays.0 stays.1
    (rw c.in-Ok-End.field-0-is at c.in-Ok-End.ensures.rests) (c.in-Ok-false.ensures.ends c.in-Ok-false.field-0-test)

pub returns-in-Ok-true-clause-more : goal.returns-in-Ok-true-clause-more
returns-in-Ok-true-clause-more c = λ _.
    let s = c.args.self.now in
    goes_behind c.args.quit (map columns_in c.args.statements.now) s.talk c.next.new.self s.closes c.args.got.now s.rows.items s.port s.text.items c.in-Ok-End.ensures.counted
    c.go_on.new.talk c.go_on.new.closes _ c.as_ref.ensures.value (λ f. rw c.in-Ok-End.field-0-is at (c.in-Ok-End.ensures.in_front f)) (c.in-Ok-true.ensures.more c.in-Ok-true.field-0-test)

pub returns-in-Ok-true-clause-kept : goal.returns-in-Ok-true-clause-kept
returns-in-Ok-true-clause-kept c = λ never. absurd (true≢false never)

pub returns-in-Ok-Done-clause-kept : goal.returns-in-Ok-Done-clause-kept
returns-in-Ok-Done-clause-kept c = λ never. absurd (true≢false never)

pub go_on-requires-clause-rests : goal.go_on-requires-clause-rests
go_on-requires-clause-rests c = rw c.in-Ok-End.field-0-is at c.in-Ok-End.ensures.rests

pub returns-in-Ok-clause-going : goal.returns-in-Ok-clause-going
returns-in-Ok-clause-going c = record {
  rows = c.requires.going.rows;
  begun = still_within (map columns_in c.args.statements.now) c.in-Ok-Print.ensures.counted c.requires.going.begun;
  stays_open = c.requires.going.stays_open;
}

pub returns-in-Ok-false-clause-going : goal.returns-in-Ok-false-clause-going
returns-in-Ok-false-clause-going c = record {
  rows = c.requires.going.rows;
  begun = begun_within c.args.statements.now _ c.in-Ok-false.ensures.begun;
  stays_open = c.in-Ok-false.ensures.stays_open;
}

pub returns-in-Ok-Done-clause-going : goal.returns-in-Ok-Done-clause-going
returns-in-Ok-Done-clause-going c = record {
  rows = c.in-Ok-Done.ensures.rows;
  begun = still_within (map columns_in c.args.statements.now) c.in-Ok-Call.ensures.counted c.requires.going.begun;
  stays_open = c.requires.going.stays_open;
}

pub returns-in-Ok-Calls-clause-going : goal.returns-in-Ok-Calls-clause-going
returns-in-Ok-Calls-clause-going c = record {
  rows = c.in-Ok-Calls.ensures.rows;
  begun = still_within (map columns_in c.args.statements.now) c.in-Ok-Call.ensures.counted c.requires.going.begun;
  stays_open = c.requires.going.stays_open;
}

pub go_on-requires-clause-begun : goal.go_on-requires-clause-begun
go_on-requires-clause-begun c =
    subst (λ m. c.next.new.self.begun ≤ m) (length-map c.args.statements.now columns_in) (still_within (map columns_in c.args.statements.now) c.in-Ok-End.ensures.counted c.requires.going.begun)

pub returns-in-Ok-Calls-clause-more : goal.returns-in-Ok-Calls-clause-more
returns-in-Ok-Calls-clause-more c = λ never. absurd (false≢true never)

pub returns-in-Ok-false-clause-more : goal.returns-in-Ok-false-clause-more
returns-in-Ok-false-clause-more c = λ never. absurd (false≢true never)

pub returns-in-Ok-clause-stands : goal.returns-in-Ok-clause-stands
returns-in-Ok-clause-stands c = λ never. absurd (true≢false never)

pub returns-in-Ok-true-clause-stands : goal.returns-in-Ok-true-clause-stands
returns-in-Ok-true-clause-stands c = λ never. absurd (true≢false never)

pub returns-in-Ok-Done-clause-stands : goal.returns-in-Ok-Done-clause-stands
returns-in-Ok-Done-clause-stands c = λ never. absurd (true≢false never)
