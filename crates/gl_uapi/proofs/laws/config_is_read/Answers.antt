use Rattle.gl_uapi.proofs.RequestLaws.{config_only, config_spelled}
use Rattle.gl_uapi.proofs.laws.config_is_read.Goals as goal

pub returns : goal.returns
returns c = record { spelled = config_spelled; only = config_only }
