use Rattle.gl_talk.proofs.WordReadings.{labels_are_read, names_are_read, paths_are_read, plain_labels_are_read, words_are_read, held_tools_are_read, pieces_are_read, no_bytes_are_read}
use Rattle.gl_talk.proofs.laws.words_are_read_as_they_are.Goals as goal

pub returns-clause-labels : goal.returns-clause-labels
returns-clause-labels c = labels_are_read

pub returns-clause-plain_labels : goal.returns-clause-plain_labels
returns-clause-plain_labels c = plain_labels_are_read

pub returns-clause-names : goal.returns-clause-names
returns-clause-names c = names_are_read

pub returns-clause-paths : goal.returns-clause-paths
returns-clause-paths c = paths_are_read

pub returns-clause-words : goal.returns-clause-words
returns-clause-words c = words_are_read

pub returns-clause-held_tools : goal.returns-clause-held_tools
returns-clause-held_tools c = held_tools_are_read

pub returns-clause-pieces : goal.returns-clause-pieces
returns-clause-pieces c = pieces_are_read

pub returns-clause-no_bytes : goal.returns-clause-no_bytes
returns-clause-no_bytes c = no_bytes_are_read
