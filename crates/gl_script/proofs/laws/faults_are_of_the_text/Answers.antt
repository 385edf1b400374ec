use Rattle.gl_script.proofs.Blaming.{faults_are_of_the_text}
use Rattle.gl_script.proofs.laws.faults_are_of_the_text.Goals as goal

pub returns : goal.returns
returns c = faults_are_of_the_text
