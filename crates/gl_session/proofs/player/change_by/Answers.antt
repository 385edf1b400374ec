use Rattle.std.proofs.Common.{◌∙◌, refl, sym}
use Rattle.gl_session.proofs.player.change_by.Goals as goal

pub files_behind-requires-clause-asks : goal.files_behind-requires-clause-asks
files_behind-requires-clause-asks c = let asked = c.requires.asks in (asked.1, asked.2, sym (c.if-opens.ensures.asks refl asked.0 asked.1) ∙ sym asked.3)
