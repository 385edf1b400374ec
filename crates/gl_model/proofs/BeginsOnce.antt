-- A removal that has begun isn't begun again.
use Rattle.std.proofs.Common.{Bool, not, List, [], ◌∷◌, Option, Some, None, sym, subst}
use Rattle.gl_base.specs.Refusals.{first_of, when}
use Rattle.gl_base.specs.declared.errno.Errno.{Errno}
use Rattle.gl_base.specs.declared.errno.Errno.TheVariants.{Busy, Inval, NoEnt, Perm}
use Rattle.gl_base.specs.declared.phase.Phase.{Phase}
use Rattle.gl_simtree.specs.Calls.{is_live}
use Rattle.gl_simtree.specs.Forms.{is_device}
use Rattle.gl_simtree.specs.Rows.{has, state_of}
use Rattle.gl_simtree.specs.declared.node.Directory.TheVariants.{Device}
use Rattle.gl_model.specs.Chips.{place_refusal}
use Rattle.gl_model.specs.OneRemoval.{BeginsOnce}
use Rattle.gl_model.specs.Outcome.{Outcome, refused_or}
use Rattle.gl_model.specs.Refusing.{IsRefused}
use Rattle.gl_model.specs.Removal.{is_outside_tree, phase_refusal, remove_begun, unplug_begun}
use Rattle.gl_model.specs.World.{World}

refused_third : (a b : Option Errno) (rest : List (Option Errno)) (w : World) (out : Outcome) → IsRefused (refused_or (first_of (a ∷ b ∷ Some Busy ∷ rest)) w out).reply
refused_third (Some e) b rest w out = tt
refused_third None (Some e) rest w out = tt
refused_third None None rest w out = tt

pub begins_once : BeginsOnce
begins_once = record {
  of_a_chip = λ w actor place leaving.
      subst (λ (phase : Phase). IsRefused (refused_or (first_of (place_refusal place w ∷ when (not (is_outside_tree w place)) Perm ∷ phase_refusal phase ∷ [])) w (unplug_begun actor place w)).reply)
      (sym leaving) (refused_third (place_refusal place w) (when (not (is_outside_tree w place)) Perm) [] w (unplug_begun actor place w));
  of_a_device = λ w actor device leaving.
      let form = when (not (is_device device)) Inval in
      let there = when (not (has (Device device) w.tree)) NoEnt in
      let live = when (not (is_live (state_of device w.tree))) Perm in
      subst (λ (b : Bool). IsRefused (refused_or (first_of (form ∷ there ∷ when b Busy ∷ live ∷ [])) w (remove_begun actor device w)).reply)
      (sym leaving) (refused_third form there (live ∷ []) w (remove_begun actor device w));
}
