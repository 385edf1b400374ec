use Rattle.gl_model.proofs.MachineLaws.{machine_laws}
use Rattle.gl_model.proofs.PhaseLaws.{never_both}
use Rattle.gl_model.proofs.laws.machine_has_laws.Goals as goal

pub returns : goal.returns
returns g c = record {
  worlds = machine_laws g.K.Image.stands_for;
  calls = record {
    fits_calls = λ call gift out fits. fits.fits_call;
    ends_not_begins = never_both;
  };
}
