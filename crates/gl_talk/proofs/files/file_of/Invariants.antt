use Rattle.std.proofs.Common.{◌≡◌, drop, map}
use Rattle.gl_talk.specs.Open.{file_of, file_in}
use Rattle.gl_talk.proofs.files.file_of.Given as goal

abbrev pub invariant-loop-file : goal.invariant-loop-file
invariant-loop-file l = file_of l.name (map file_in (drop l.file-index l.files)) ≡ file_of l.name (map file_in l.files)
