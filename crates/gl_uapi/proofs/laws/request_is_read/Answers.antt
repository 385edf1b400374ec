use Rattle.gl_uapi.proofs.RequestLaws.{request_only, request_spelled}
use Rattle.gl_uapi.proofs.laws.request_is_read.Goals as goal

pub returns : goal.returns
returns c = record { spelled = request_spelled; only = request_only }
