use Rattle.std.proofs.Common.{rules, ◌≡◌, ◌∷◌, ◌∙◌, Err, Some, ap, refl, set, sym, subst}
use Rattle.std.specs.Prelude.{◌≢◌, IsOkUnless, OnOk}
use Rattle.gl_base.specs.declared.errno.Errno.TheVariants.{NoMemory}
use Rattle.gl_session.proofs.Mapped.{on_ok_of}
use Rattle.gl_session.proofs.fork.join_one.Goals as goal
use Rattle.gl_session.proofs.fork.join_one.Goals.{in-Ok, in-Err}

pub returns-after-insert-clause-text : goal.returns-after-insert-clause-text
returns-after-insert-clause-text g c =
    let with_memory : c.args.done.1 ≢ Err NoMemory = search rules in
    elim c.match-insert.branch [
      | in-Ok w ↦ on_ok_of c.match-insert.result _ (with_memory, w.in-Ok.ensures.items)
      | in-Err w ↦ subst (λ r. OnOk r ((c.args.done.1 ≢ Err NoMemory) × (c.insert.new.self.items ≡ c.args.done.1 ∷ c.args.texts.now.items))) (sym w.result-is) tt
    ]

pub returns-after-insert-clause-joined : goal.returns-after-insert-clause-joined
returns-after-insert-clause-joined g c = let j = c.join-port.ensures in on_ok_of c.match-insert.result _ (j.joined, j.seen, j.other_seen)

pub returns-after-insert-clause-ports : goal.returns-after-insert-clause-ports
returns-after-insert-clause-ports g c = on_ok_of c.match-insert.result _ (c.give_port.ensures ∙ ap (λ port. set c.args.ports.now c.args.n (Some port)) c.join-port.ensures.port)

pub returns-after-insert-clause-memory_alone : goal.returns-after-insert-clause-memory_alone
returns-after-insert-clause-memory_alone g c = elim c.match-insert.branch [ in-Ok w ↦ subst (λ r. IsOkUnless r NoMemory) (sym w.result-is) tt | in-Err w ↦ subst (λ r. IsOkUnless r NoMemory) (sym w.result-is) refl ]
