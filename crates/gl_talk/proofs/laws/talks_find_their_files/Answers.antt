use Rattle.gl_talk.proofs.TalkFiles.{none_is_open_before, none_is_open_before_setup, statements_find_their_files, end_closes_all, talks_find_their_files}
use Rattle.gl_talk.proofs.laws.talks_find_their_files.Goals as goal

pub returns-clause-before : goal.returns-clause-before
returns-clause-before c = none_is_open_before

pub returns-clause-before_setup : goal.returns-clause-before_setup
returns-clause-before_setup c = none_is_open_before_setup

pub returns-clause-statements : goal.returns-clause-statements
returns-clause-statements c = statements_find_their_files

pub returns-clause-end : goal.returns-clause-end
returns-clause-end c = end_closes_all

pub returns-clause-whole : goal.returns-clause-whole
returns-clause-whole c = talks_find_their_files
