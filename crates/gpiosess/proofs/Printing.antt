-- What a session came to over new ports of a planned driver is what the program prints.
use Rattle.std.proofs.Common.{◌≡◌, inr, ◌<◌, ◌≤◌, ℕ, Bool, true, false, List, length, nat_lt, Option, None, Some, IfSome, refl, ◌∙◌, ap, subst, arith}
use Rattle.gl_driver.specs.Told.{Told, new_port}
use Rattle.gl_script.specs.Section.{SaidSection}
use Rattle.gl_script.specs.Sentence.{Sentence}
use Rattle.gl_session.specs.Figures.{CameToLoad, HasWrittenLoad, figures}
use Rattle.gl_check.specs.Drivers.{over}
use Rattle.gl_check.specs.Joining.{Maps}
use Rattle.gl_check.specs.Many.{actor_sections}
use Rattle.gl_base.specs.Rows.{Each}
use Rattle.gl_script.specs.Cost.{session_cost}
use Rattle.gl_check.specs.Lawful.{IsLawfulCall}
use Rattle.gl_check.specs.One.{asked_over, entries_made, one, planned}
use Rattle.gl_check.specs.Settled.{IsGiven, IsGivenOneList}
use Rattle.gl_aggregator.specs.Settled.{DoesOneThing}
use Rattle.gl_session.specs.OneActor.{CameAlone}
use Rattle.gl_session.specs.Run.{CameBy, HasWritten}
use Rattle.gl_session.proofs.FewActors.{few_actors}
use Rattle.gpiosess.specs.Program.{HasPrinted, HasPrintedLoad, PrintsBy, PrintsLoad, simulated, simulated_answer, simulated_over}
use Rattle.gpiosess.proofs.OneThing.{is_given_one}

module _ (before left : ℕ → Option Told) (m : Maps) (new : (n : ℕ) → n < 17 → before n ≡ Some new_port) (one_thing : DoesOneThing true simulated_answer) (one_list : IsGivenOneList simulated_over) where
  is_given : (sections : List SaidSection) (text : List ℕ) (came : CameAlone simulated_over sections (before 0) text (left 0) m) → IsGiven simulated_over (session_cost sections) sections (Some new_port) came.over.given
  is_given sections text came = record {
    takes = came.over.takes;
    lawful = subst (λ told. Each (IsLawfulCall simulated (session_cost sections)) (asked_over 8 4 sections came.over.given told)) (new 0 (omega arith)) came.over.lawful;
  }

  prints_by : (alone : Bool) (sections : List SaidSection) (text : List ℕ) → length (actor_sections sections) ≤ 16 → CameBy alone simulated_over sections before left m text → PrintsBy alone sections text
  prints_by true sections text few came = record {
    over = record {
      given = came.over.given;
      prints = came.over.prints;
      is_given = is_given sections text came;
      only = λ other is. is_given_one one_thing one_list sections other came.over.given is (is_given sections text came);
    };
    plainly = λ none. let plainly = came.plainly (inr none) in plainly.prints ∙ ap (λ answers. one sections answers) (plainly.as_planned refl new_port (new 0 (omega arith)));
  }
  prints_by false sections text few came = record {
    history = came.history;
    texts = came.texts;
    many = came.came.many;
    as_planned = came.came.as_planned refl (λ n low. new n (omega arith));
    told = came.told;
    prints = came.prints;
  }

  has_printed : (sections : List SaidSection) → length (actor_sections sections) ≤ 16 → (old then : Option (List ℕ)) → HasWritten simulated_over sections before left m old then → HasPrinted sections old then
  has_printed sections few old then w = (w.0, w.1, prints_by (nat_lt (length (actor_sections sections)) 2) sections w.0 few w.2)

  printed_by : (input : Option (List ℕ)) (Ends : Type 0) (old then : Option (List ℕ)) → IfSome input (λ bytes. (sections : List SaidSection) → Sentence bytes sections → Ends × HasWritten simulated_over sections before left m old then)
      → IfSome input (λ bytes. (sections : List SaidSection) → Sentence bytes sections → Ends × HasPrinted sections old then)
  printed_by None Ends old then h = tt
  printed_by (Some bytes) Ends old then h = λ sections said. ((h sections said).0, has_printed sections (few_actors bytes sections said) old then (h sections said).1)

  -- of a source that tells its bytes, over ports that take four maps
  pub printed : (takes : ℕ) → takes ≡ 4 → (input : Option (List ℕ)) (Ends : Type 0) (old then : Option (List ℕ)) → IfSome input (λ bytes. (sections : List SaidSection) → Sentence bytes sections → Ends × HasWritten (over takes simulated) sections before left m old then)
      → IfSome input (λ bytes. (sections : List SaidSection) → Sentence bytes sections → Ends × HasPrinted sections old then)
  printed takes four input Ends old then h = printed_by input Ends old then
      (subst (λ (n : ℕ). IfSome input (λ bytes. (sections : List SaidSection) → Sentence bytes sections → Ends × HasWritten (over n simulated) sections before left m old then)) four h)

-- a load, over the new port of the first actor
prints_load : (turns : ℕ) (before left : Option Told) (text : List ℕ) → before ≡ Some new_port → CameToLoad simulated turns before left text → PrintsLoad turns text
prints_load turns before left text new load =
    let answers : load.came.came.answers ≡ planned load.sections = load.came.came.as_planned refl new_port new in record {
      sections = load.sections;
      sentence = load.sentence;
      prints = load.is ∙ (λ i. figures load.sections (load.came.makes i) (load.came.came.prints i))
          ∙ ap (λ given. figures load.sections (entries_made load.sections given) (one load.sections given)) answers;
    }

pub printed_load : (turns : ℕ) (before left : Option Told) (old then : Option (List ℕ)) → before ≡ Some new_port → HasWrittenLoad simulated turns before left old then → HasPrintedLoad turns old then
printed_load turns before left old then new w = (w.0, w.1, prints_load turns before left w.0 new w.2)
