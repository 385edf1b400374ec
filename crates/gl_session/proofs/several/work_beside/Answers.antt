use Rattle.std.proofs.Common.{◌≡◌, ℕ, List, Result, length, map, Ok, ap, subst, ◌∙◌, inr, ⊎_elim, inl, arith}
use Rattle.std.specs.Prelude.{vec_len}
use Rattle.std.proofs.lemmas.List.{length-map}
use Rattle.gl_base.specs.declared.errno.Errno.{Errno}
use Rattle.gl_world.specs.History.{StartsWith}
use Rattle.gl_script.specs.Script.{sections_of}
use Rattle.gl_check.specs.Drivers.{driver_kind}
use Rattle.gl_check.specs.Many.{actor_sections, program_of}
use Rattle.gl_session.specs.Ports.{maps_of}
use Rattle.gl_session.specs.Workers.{AreKept, HasJoined, HasSplit, told_at}
use Rattle.gl_session.proofs.Placing.{begins_same}
use Rattle.gl_session.proofs.several.work_beside.Goals as goal

pub work_all-requires-clause-fresh : goal.work_all-requires-clause-fresh
work_all-requires-clause-fresh g c κs within = (
  told_at g.D.Port.Port.told c.args.ports.now,
  c.args.first.now.pass.view,
  c.in-Ok.ensures.fresh,
  c.requires.placed,
)

pub work_all-requires-clause-maps : goal.work_all-requires-clause-maps
work_all-requires-clause-maps g c κs within =
    let m = maps_of g.D.Port.Port.maps g.D.Port.Port.maps_left c.args.first.now.port in (m, c.requires.maps, c.in-Ok.ensures.maps m c.requires.others)

pub join_all-requires-clause-done : goal.join_all-requires-clause-done
join_all-requires-clause-done g c κs within =
    let m = maps_of g.D.Port.Port.maps g.D.Port.Port.maps_left c.args.first.now.port in let told = told_at g.D.Port.Port.told c.args.ports.now in (
      told,
      m,
      program_of (sections_of c.args.common.now.script.now),
      c.args.first.now.pass.view,
      c.in-Ok-work_all.ensures.done told c.args.first.now.pass.view m c.in-Ok.ensures.fresh (c.in-Ok.ensures.maps m c.requires.others),
    )

pub returns-in-Ok-all_printed-clause-forked : goal.returns-in-Ok-all_printed-clause-forked
returns-in-Ok-all_printed-clause-forked g c =
    let m = maps_of g.D.Port.Port.maps g.D.Port.Port.maps_left c.args.first.now.port in let told = told_at g.D.Port.Port.told c.args.ports.now in
    let programs = program_of (sections_of c.args.common.now.script.now) in
    let n : ℕ = length (actor_sections (sections_of c.args.common.now.script.now)) in
    let v = c.args.first.now.pass.view in let between = c.split_all.new.first.pass.view in let w = c.join_all.new.first.pass.view in
    let count : c.count_actors-count.result ≡ n = c.count_actors-count.ensures in
    let len : vec_len c.in-Ok-work_all.all ≡ n = c.in-Ok-work_all.ensures.len ∙ c.in-Ok.ensures.len ∙ count in
    let texts : List (List ℕ) = c.in-Ok-all_printed.texts.items in
    let mapped : List (Result (List ℕ) Errno) = map Ok texts in
    let printed : c.in-Ok-join_all.texts.items ≡ mapped = c.in-Ok-all_printed.ensures.printed in
    let as_many : length texts ≡ n = (let long : length c.in-Ok-join_all.texts.items ≡ length mapped = ap (λ (l : List (Result (List ℕ) Errno)). length l) printed in
    let same : length mapped ≡ length texts = length-map texts Ok in let ok = c.in-Ok-join_all.texts.ok in let joined_len = c.in-Ok-join_all.ensures.len in omega arith) in record {
      between = between;
      split = subst (λ k. HasSplit v k between) count c.in-Ok.ensures.split;
      joined = subst (λ k. HasJoined between k w) len c.in-Ok-join_all.ensures.joined;
      kept = subst (λ (l : List (Result (List ℕ) Errno)). AreKept (driver_kind g.D.Driver.ENTRIES g.D.Driver.is_planned g.D.Driver.OwnEntries g.D.Driver.Follows) m programs told (told_at g.D.Port.Port.told c.join_all.new.ports) v w 1 l) printed
          (c.in-Ok-join_all.ensures.kept told m programs v (c.in-Ok-work_all.ensures.done told v m c.in-Ok.ensures.fresh (c.in-Ok.ensures.maps m c.requires.others)));
      as_many = as_many;
      ports_len = c.join_all.ensures.ports_len ∙ c.split_all.ensures.ports_len;
      others = λ k far. c.in-Ok-join_all.ensures.others k (omega (arith, far, len)) ∙ c.in-Ok.ensures.others k (omega (arith, far, count));
      there = λ k low most. c.in-Ok-join_all.ensures.there k low (omega (arith, most, len));
    }

pub returns-in-Err-all_printed-clause-stopped : goal.returns-in-Err-all_printed-clause-stopped
returns-in-Err-all_printed-clause-stopped g c =
    let m = maps_of g.D.Port.Port.maps g.D.Port.Port.maps_left c.args.first.now.port in let told = told_at g.D.Port.Port.told c.args.ports.now in
    let programs = program_of (sections_of c.args.common.now.script.now) in
    let n : ℕ = length (actor_sections (sections_of c.args.common.now.script.now)) in
    let v = c.args.first.now.pass.view in let between = c.split_all.new.first.pass.view in let w = c.join_all.new.first.pass.view in
    let count : c.count_actors-count.result ≡ n = c.count_actors-count.ensures in
    let len : vec_len c.in-Ok-work_all.all ≡ n = c.in-Ok-work_all.ensures.len ∙ c.in-Ok.ensures.len ∙ count in
    let as_many : length c.in-Ok-join_all.texts.items ≡ n = (let ok = c.in-Ok-join_all.texts.ok in let joined_len = c.in-Ok-join_all.ensures.len in omega arith) in
    ⊎_elim (λ wanted. inl wanted) (λ stopped. inr (record {
      between = between;
      split = subst (λ k. HasSplit v k between) count c.in-Ok.ensures.split;
      joined = subst (λ k. HasJoined between k w) len c.in-Ok-join_all.ensures.joined;
      left = told_at g.D.Port.Port.told c.join_all.new.ports;
      texts = c.in-Ok-join_all.texts.items;
      kept = c.in-Ok-join_all.ensures.kept told m programs v (c.in-Ok-work_all.ensures.done told v m c.in-Ok.ensures.fresh (c.in-Ok.ensures.maps m c.requires.others));
      as_many = as_many;
      errno = c.in-Err-all_printed.errno;
      stopped = stopped;
    })) c.in-Err-all_printed.ensures.cause

pub returns-in-Err-clause-grows : goal.returns-in-Err-clause-grows
returns-in-Err-clause-grows g c = begins_same _ _ c.split_all.ensures.seen

pub returns-in-Err-work_all-clause-grows : goal.returns-in-Err-work_all-clause-grows
returns-in-Err-work_all-clause-grows g c = begins_same _ _ c.split_all.ensures.seen

pub returns-in-Err-join_all-clause-grows : goal.returns-in-Err-join_all-clause-grows
returns-in-Err-join_all-clause-grows g c = subst (λ seen. StartsWith c.join_all.new.first.pass.view.seen seen) c.split_all.ensures.seen c.join_all.ensures.grows

pub returns-in-Ok-all_printed-clause-grows : goal.returns-in-Ok-all_printed-clause-grows
returns-in-Ok-all_printed-clause-grows g c = subst (λ seen. StartsWith c.join_all.new.first.pass.view.seen seen) c.split_all.ensures.seen c.join_all.ensures.grows

pub returns-in-Err-all_printed-clause-grows : goal.returns-in-Err-all_printed-clause-grows
returns-in-Err-all_printed-clause-grows g c = subst (λ seen. StartsWith c.join_all.new.first.pass.view.seen seen) c.split_all.ensures.seen c.join_all.ensures.grows

pub returns-in-Ok-all_printed-clause-ports_maps : goal.returns-in-Ok-all_printed-clause-ports_maps
returns-in-Ok-all_printed-clause-ports_maps g c =
    let m = maps_of g.D.Port.Port.maps g.D.Port.Port.maps_left c.args.first.now.port in
    c.in-Ok-join_all.ensures.maps m (c.in-Ok.ensures.maps_left m c.requires.others) (c.in-Ok-work_all.ensures.maps m (c.in-Ok.ensures.maps m c.requires.others)) c.in-Ok-all_printed.texts.items c.in-Ok-all_printed.ensures.printed

pub returns-in-Err-join_all-clause-port : goal.returns-in-Err-join_all-clause-port
returns-in-Err-join_all-clause-port g c = c.join_all.ensures.port ∙ c.split_all.ensures.port

pub returns-in-Err-join_all-clause-ports_len : goal.returns-in-Err-join_all-clause-ports_len
returns-in-Err-join_all-clause-ports_len g c = c.join_all.ensures.ports_len ∙ c.split_all.ensures.ports_len

pub returns-in-Err-join_all-clause-actor : goal.returns-in-Err-join_all-clause-actor
returns-in-Err-join_all-clause-actor g c = c.join_all.ensures.actor

pub returns-in-Ok-all_printed-clause-port : goal.returns-in-Ok-all_printed-clause-port
returns-in-Ok-all_printed-clause-port g c = c.join_all.ensures.port ∙ c.split_all.ensures.port

pub returns-in-Ok-all_printed-clause-ports_len : goal.returns-in-Ok-all_printed-clause-ports_len
returns-in-Ok-all_printed-clause-ports_len g c = c.join_all.ensures.ports_len ∙ c.split_all.ensures.ports_len

pub returns-in-Ok-all_printed-clause-actor : goal.returns-in-Ok-all_printed-clause-actor
returns-in-Ok-all_printed-clause-actor g c = c.join_all.ensures.actor

pub returns-in-Err-all_printed-clause-port : goal.returns-in-Err-all_printed-clause-port
returns-in-Err-all_printed-clause-port g c = c.join_all.ensures.port ∙ c.split_all.ensures.port

pub returns-in-Err-all_printed-clause-ports_len : goal.returns-in-Err-all_printed-clause-ports_len
returns-in-Err-all_printed-clause-ports_len g c = c.join_all.ensures.ports_len ∙ c.split_all.ensures.ports_len

pub returns-in-Err-all_printed-clause-actor : goal.returns-in-Err-all_printed-clause-actor
returns-in-Err-all_printed-clause-actor g c = c.join_all.ensures.actor

pub returns-in-Err-clause-stopped : goal.returns-in-Err-clause-stopped
returns-in-Err-clause-stopped g c = inl c.in-Err.ensures.memory_alone

pub returns-in-Err-join_all-clause-stopped : goal.returns-in-Err-join_all-clause-stopped
returns-in-Err-join_all-clause-stopped g c = inl c.in-Err-join_all.ensures.memory_alone
