use Rattle.std.proofs.Common.{◌≡◌, ℕ, Vec, Global, None, Result, Ok, ap, refl, ◌∙◌, subst, rules}
use Rattle.gl_client.specs.Program.{given}
use Rattle.gl_client.specs.declared.next.Next.{Next}
use Rattle.gl_client.specs.declared.next.Next.TheVariants.{Call, End, Print}
use Rattle.gl_base.specs.declared.errno.Errno.{Errno}
use Rattle.gl_served.specs.UnderWay.{Advances, first_or, left_by, told_by}
use Rattle.gl_served.specs.declared.under_way.Step.TheVariants.{Told, Asks, Prints}
use Rattle.gl_served.proofs.Running.{asks_next, ends_next, gone_as, gone_stays, gone_told, prints_next}
use Rattle.gl_served.proofs.under_way.UnderWay.told.Goals as goal

pub returns-in-Ok-Call-clause-gone : goal.returns-in-Ok-Call-clause-gone
returns-in-Ok-Call-clause-gone c = λ p s before after names a advances gone.
    let is : c.args.next ≡ Ok (Call c.in-Ok-Call.what) = search rules in
    let adv : Advances (Ok (Call c.in-Ok-Call.what)) before c.args.got after names = subst (λ (n : Result Next Errno). Advances n before c.args.got after names) is advances in
    gone_as p s (Asks c.in-Ok-Call.what) c.was_told.new.self.step (first_or c.args.self.now.first c.args.got) c.was_told.new.self.first c.args.self.now.printed.items c.was_told.new.self.printed.items after a
    c.was_told.ensures.step c.was_told.ensures.first (ap (λ (v : Vec ℕ Global). v.items) c.was_told.ensures.printed)
    (gone_told p s c.args.got c.args.self.now.first c.args.self.now.printed.items before after (Asks c.in-Ok-Call.what) a a gone (asks_next (given before c.args.got) c.in-Ok-Call.what after adv.0) refl refl)

pub returns-in-Ok-Print-clause-gone : goal.returns-in-Ok-Print-clause-gone
returns-in-Ok-Print-clause-gone c = λ p s before after names a advances gone.
    let is : c.args.next ≡ Ok (Print c.in-Ok-Print.text) = search rules in
    let adv : Advances (Ok (Print c.in-Ok-Print.text)) before c.args.got after names = subst (λ (n : Result Next Errno). Advances n before c.args.got after names) is advances in
    gone_as p s (Prints c.in-Ok-Print.text) c.was_told-in-Ok-Print.new.self.step (first_or c.args.self.now.first c.args.got) c.was_told-in-Ok-Print.new.self.first c.args.self.now.printed.items c.was_told-in-Ok-Print.new.self.printed.items after a
    c.was_told-in-Ok-Print.ensures.step c.was_told-in-Ok-Print.ensures.first (ap (λ (v : Vec ℕ Global). v.items) c.was_told-in-Ok-Print.ensures.printed)
    (gone_told p s c.args.got c.args.self.now.first c.args.self.now.printed.items before after (Prints c.in-Ok-Print.text) a a gone (prints_next (given before c.args.got) c.in-Ok-Print.text after adv.0) refl refl)

pub returns-in-Ok-End-clause-gone : goal.returns-in-Ok-End-clause-gone
returns-in-Ok-End-clause-gone c = λ p s before after names a advances gone.
    let is : c.args.next ≡ Ok End = search rules in
    let adv : Advances (Ok End) before c.args.got after names = subst (λ (n : Result Next Errno). Advances n before c.args.got after names) is advances in
    gone_as p s (Told None) c.was_told-in-Ok-End.new.self.step (first_or c.args.self.now.first c.args.got) c.was_told-in-Ok-End.new.self.first c.args.self.now.printed.items c.was_told-in-Ok-End.new.self.printed.items after a
    c.was_told-in-Ok-End.ensures.step c.was_told-in-Ok-End.ensures.first (ap (λ (v : Vec ℕ Global). v.items) c.was_told-in-Ok-End.ensures.printed)
    (gone_told p s c.args.got c.args.self.now.first c.args.self.now.printed.items before after (Told None) a a gone (ends_next (given before c.args.got) after names adv.0 adv.1) refl refl)

pub returns-in-Ok-End-clause-ended : goal.returns-in-Ok-End-clause-ended
returns-in-Ok-End-clause-ended c = λ before after names advances no.
    let is : c.args.next ≡ Ok End = search rules in
    let adv : Advances (Ok End) before c.args.got after names = subst (λ (n : Result Next Errno). Advances n before c.args.got after names) is advances in
    ap (λ step. left_by after step) c.was_told-in-Ok-End.ensures.step ∙ ap (λ l. given l None) adv.1

pub returns-in-Ok-End-clause-told : goal.returns-in-Ok-End-clause-told
returns-in-Ok-End-clause-told c = λ no. ap (λ step. told_by step) c.was_told-in-Ok-End.ensures.step

pub returns-in-Err-clause-gone : goal.returns-in-Err-clause-gone
returns-in-Err-clause-gone c = λ p s before after names a advances gone.
    let adv : after ≡ before = subst (λ (n : Result Next Errno). Advances n before c.args.got after names) c.in-Err.is advances in
    gone_stays p s (Told c.args.got) c.args.self.now.first c.args.self.now.printed.items before after a a gone adv refl
