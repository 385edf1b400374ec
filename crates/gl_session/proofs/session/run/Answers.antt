use Rattle.std.proofs.Common.{ℕ, List, [], Err, Some, ap, inl, inr, refl, subst, ⊎_elim, ◌∙◌}
use Rattle.gl_words.specs.Words.{asks, texts}
use Rattle.gl_session.specs.Figures.{CameToLoad, HasWrittenLoad}
use Rattle.gl_session.specs.Streams.{AppendsFront}
use Rattle.gl_session.specs.Workers.{told_at}
use Rattle.gl_session.proofs.Figures.{same_turns}
use Rattle.gl_session.proofs.WordsAsked.{apart, check_has_words, check_is_no_load, check_is_some, consumes_none, load_has_words, load_is_no_check, load_is_some, no_other, no_third, none_has_words, none_is_no_check, none_is_no_load, session_is_no_check, session_is_no_load, session_is_some}
use Rattle.gl_session.proofs.session.run.Goals as goal
use Rattle.gl_check.specs.Drivers.{driver_kind}

pub returns-in-Ok-Load-clause-load : goal.returns-in-Ok-Load-clause-load
returns-in-Ok-Load-clause-load g c = λ ran n is.
    let t = g.D.Port.Port.told in
    subst (λ (k : ℕ). HasWrittenLoad (driver_kind g.D.Driver.ENTRIES g.D.Driver.is_planned g.D.Driver.OwnEntries g.D.Driver.Follows) k (told_at t c.args.ports.now 0) (told_at t c.run_load.new.ports 0) (g.K.Sink.held c.args.sink.now) (g.K.Sink.held c.run_load.new.sink))
    (same_turns _ _ n (c.in-Ok-Load.ensures.ok ∙ ap Some c.in-Ok-Load.field-0-is) is) (c.run_load.ensures.ran ran)

pub returns-in-Ok-Load-clause-load_front : goal.returns-in-Ok-Load-clause-load_front
returns-in-Ok-Load-clause-load_front g c = λ fault n is.
    let t = g.D.Port.Port.told in
    subst (λ (k : ℕ). (text : List ℕ) × CameToLoad (driver_kind g.D.Driver.ENTRIES g.D.Driver.is_planned g.D.Driver.OwnEntries g.D.Driver.Follows) k (told_at t c.args.ports.now 0) (told_at t c.run_load.new.ports 0) text × AppendsFront (g.K.Sink.held c.args.sink.now) (g.K.Sink.held c.run_load.new.sink) text)
    (same_turns _ _ n (c.in-Ok-Load.ensures.ok ∙ ap Some c.in-Ok-Load.field-0-is) is) (c.run_load.ensures.front fault)

pub returns-in-Ok-Session-clause-output : goal.returns-in-Ok-Session-clause-output
returns-in-Ok-Session-clause-output g c = λ ran none. c.run_session.ensures.output ran

pub returns-in-Ok-Session-clause-ran_only_session : goal.returns-in-Ok-Session-clause-ran_only_session
returns-in-Ok-Session-clause-ran_only_session g c = λ ran none. c.run_session.ensures.ran_only_session ran

pub returns-in-Ok-Session-clause-load : goal.returns-in-Ok-Session-clause-load
returns-in-Ok-Session-clause-load g c = let asked = c.in-Ok-Session.ensures.ok ∙ ap Some c.in-Ok-Session.field-0-is in λ ran n is. absurd (session_is_no_load _ n asked is)

pub returns-in-Ok-Session-clause-load_ends : goal.returns-in-Ok-Session-clause-load_ends
returns-in-Ok-Session-clause-load_ends g c = let asked = c.in-Ok-Session.ensures.ok ∙ ap Some c.in-Ok-Session.field-0-is in λ n is. absurd (session_is_no_load _ n asked is)

pub returns-in-Ok-Session-clause-usage : goal.returns-in-Ok-Session-clause-usage
returns-in-Ok-Session-clause-usage g c = let asked = c.in-Ok-Session.ensures.ok ∙ ap Some c.in-Ok-Session.field-0-is in λ is. absurd (session_is_some _ asked is)

pub returns-in-Ok-Session-clause-usage_only : goal.returns-in-Ok-Session-clause-usage_only
returns-in-Ok-Session-clause-usage_only g c = λ used. absurd (c.run_session.ensures.no_usage used)

pub returns-in-Ok-Session-clause-usage_written : goal.returns-in-Ok-Session-clause-usage_written
returns-in-Ok-Session-clause-usage_written g c = λ used. absurd (c.run_session.ensures.no_usage used)

pub returns-in-Ok-Session-clause-words_read_nothing : goal.returns-in-Ok-Session-clause-words_read_nothing
returns-in-Ok-Session-clause-words_read_nothing g c = λ some other. absurd (some (c.in-Ok-Session.ensures.session c.in-Ok-Session.field-0-is))

pub returns-in-Ok-Session-clause-read_fault : goal.returns-in-Ok-Session-clause-read_fault
returns-in-Ok-Session-clause-read_fault g c = c.run_session.ensures.read_fault

pub returns-in-Ok-Session-clause-read_fault_only : goal.returns-in-Ok-Session-clause-read_fault_only
returns-in-Ok-Session-clause-read_fault_only g c = λ fault. inl (c.in-Ok-Session.ensures.session c.in-Ok-Session.field-0-is)

pub returns-in-Ok-Session-clause-read_fault_writes_nothing : goal.returns-in-Ok-Session-clause-read_fault_writes_nothing
returns-in-Ok-Session-clause-read_fault_writes_nothing g c = c.run_session.ensures.read_fault_writes_nothing

pub returns-in-Ok-Session-clause-read_fault_told : goal.returns-in-Ok-Session-clause-read_fault_told
returns-in-Ok-Session-clause-read_fault_told g c = c.run_session.ensures.read_fault_told

pub returns-in-Ok-Session-clause-read_front : goal.returns-in-Ok-Session-clause-read_front
returns-in-Ok-Session-clause-read_front g c = c.run_session.ensures.read_front

pub returns-in-Ok-Session-clause-refused : goal.returns-in-Ok-Session-clause-refused
returns-in-Ok-Session-clause-refused g c = λ none. c.run_session.ensures.refused

pub returns-in-Ok-Session-clause-refused_words : goal.returns-in-Ok-Session-clause-refused_words
returns-in-Ok-Session-clause-refused_words g c = λ refused. inl (c.in-Ok-Session.ensures.session c.in-Ok-Session.field-0-is)

pub returns-in-Ok-Session-clause-refused_only : goal.returns-in-Ok-Session-clause-refused_only
returns-in-Ok-Session-clause-refused_only g c = λ refused none. c.run_session.ensures.refused_only refused

pub returns-in-Ok-Session-clause-refused_read_through : goal.returns-in-Ok-Session-clause-refused_read_through
returns-in-Ok-Session-clause-refused_read_through g c = λ refused none. c.run_session.ensures.refused_read_through refused

pub returns-in-Ok-Session-clause-refused_written : goal.returns-in-Ok-Session-clause-refused_written
returns-in-Ok-Session-clause-refused_written g c = c.run_session.ensures.refused_written

pub returns-in-Ok-Session-clause-write_fault : goal.returns-in-Ok-Session-clause-write_fault
returns-in-Ok-Session-clause-write_fault g c = c.run_session.ensures.write_fault

pub returns-in-Ok-Session-clause-write_fault_told : goal.returns-in-Ok-Session-clause-write_fault_told
returns-in-Ok-Session-clause-write_fault_told g c = c.run_session.ensures.write_fault_told

pub returns-in-Ok-Session-clause-write_fault_read_through : goal.returns-in-Ok-Session-clause-write_fault_read_through
returns-in-Ok-Session-clause-write_fault_read_through g c = λ fault none. c.run_session.ensures.write_fault_read_through fault

pub returns-in-Ok-Session-clause-write_fault_front : goal.returns-in-Ok-Session-clause-write_fault_front
returns-in-Ok-Session-clause-write_fault_front g c = λ fault none. c.run_session.ensures.write_fault_front fault

pub returns-in-Ok-Session-clause-load_front : goal.returns-in-Ok-Session-clause-load_front
returns-in-Ok-Session-clause-load_front g c = let asked = c.in-Ok-Session.ensures.ok ∙ ap Some c.in-Ok-Session.field-0-is in λ fault n is. absurd (session_is_no_load _ n asked is)

pub returns-in-Ok-Session-clause-usage_front : goal.returns-in-Ok-Session-clause-usage_front
returns-in-Ok-Session-clause-usage_front g c = let asked = c.in-Ok-Session.ensures.ok ∙ ap Some c.in-Ok-Session.field-0-is in λ fault is. absurd (session_is_some _ asked is)

pub returns-in-Ok-Session-clause-no_memory_writes_nothing : goal.returns-in-Ok-Session-clause-no_memory_writes_nothing
returns-in-Ok-Session-clause-no_memory_writes_nothing g c = c.run_session.ensures.no_memory_writes_nothing

pub returns-in-Ok-Session-clause-complete : goal.returns-in-Ok-Session-clause-complete
returns-in-Ok-Session-clause-complete g c = λ none. c.run_session.ensures.complete

pub returns-in-Ok-Session-clause-load_complete : goal.returns-in-Ok-Session-clause-load_complete
returns-in-Ok-Session-clause-load_complete g c = let asked = c.in-Ok-Session.ensures.ok ∙ ap Some c.in-Ok-Session.field-0-is in λ n is. absurd (session_is_no_load _ n asked is)

pub returns-in-Ok-Session-clause-check : goal.returns-in-Ok-Session-clause-check
returns-in-Ok-Session-clause-check g c = let asked = c.in-Ok-Session.ensures.ok ∙ ap Some c.in-Ok-Session.field-0-is in λ is. absurd (session_is_no_check _ asked is)

pub returns-in-Ok-Session-clause-check_front : goal.returns-in-Ok-Session-clause-check_front
returns-in-Ok-Session-clause-check_front g c = let asked = c.in-Ok-Session.ensures.ok ∙ ap Some c.in-Ok-Session.field-0-is in λ fault is. absurd (session_is_no_check _ asked is)

pub returns-in-Ok-Session-clause-check_read_through : goal.returns-in-Ok-Session-clause-check_read_through
returns-in-Ok-Session-clause-check_read_through g c = let asked = c.in-Ok-Session.ensures.ok ∙ ap Some c.in-Ok-Session.field-0-is in λ is. absurd (session_is_no_check _ asked is)

pub returns-in-Ok-Session-clause-no_only : goal.returns-in-Ok-Session-clause-no_only
returns-in-Ok-Session-clause-no_only g c = λ no. absurd (c.run_session.ensures.no_no no)

pub returns-in-Ok-Session-clause-check_complete : goal.returns-in-Ok-Session-clause-check_complete
returns-in-Ok-Session-clause-check_complete g c = let asked = c.in-Ok-Session.ensures.ok ∙ ap Some c.in-Ok-Session.field-0-is in λ is. absurd (session_is_no_check _ asked is)

pub returns-in-Ok-Session-clause-yes : goal.returns-in-Ok-Session-clause-yes
returns-in-Ok-Session-clause-yes g c = let asked = c.in-Ok-Session.ensures.ok ∙ ap Some c.in-Ok-Session.field-0-is in λ is. absurd (session_is_no_check _ asked is)

pub returns-in-Ok-Session-clause-yes_complete : goal.returns-in-Ok-Session-clause-yes_complete
returns-in-Ok-Session-clause-yes_complete g c = let asked = c.in-Ok-Session.ensures.ok ∙ ap Some c.in-Ok-Session.field-0-is in λ is. absurd (session_is_no_check _ asked is)

pub returns-in-Ok-Session-clause-ports_there : goal.returns-in-Ok-Session-clause-ports_there
returns-in-Ok-Session-clause-ports_there g c = c.run_session.ensures.ports_there

pub returns-in-Ok-Session-clause-other_ports : goal.returns-in-Ok-Session-clause-other_ports
returns-in-Ok-Session-clause-other_ports g c = λ kept none. c.run_session.ensures.other_ports kept

pub returns-in-Ok-Session-clause-load_ports : goal.returns-in-Ok-Session-clause-load_ports
returns-in-Ok-Session-clause-load_ports g c = let asked = c.in-Ok-Session.ensures.ok ∙ ap Some c.in-Ok-Session.field-0-is in λ n is. absurd (session_is_no_load _ n asked is)

pub returns-in-Ok-Session-clause-load_maps : goal.returns-in-Ok-Session-clause-load_maps
returns-in-Ok-Session-clause-load_maps g c = let asked = c.in-Ok-Session.ensures.ok ∙ ap Some c.in-Ok-Session.field-0-is in λ kept n is. absurd (session_is_no_load _ n asked is)

pub returns-in-Ok-Session-clause-check_ports : goal.returns-in-Ok-Session-clause-check_ports
returns-in-Ok-Session-clause-check_ports g c = let asked = c.in-Ok-Session.ensures.ok ∙ ap Some c.in-Ok-Session.field-0-is in λ is. absurd (session_is_no_check _ asked is)

pub returns-in-Ok-Session-clause-usage_ports : goal.returns-in-Ok-Session-clause-usage_ports
returns-in-Ok-Session-clause-usage_ports g c = let asked = c.in-Ok-Session.ensures.ok ∙ ap Some c.in-Ok-Session.field-0-is in λ is. absurd (session_is_some _ asked is)

pub returns-in-Ok-Session-clause-read_fault_ports : goal.returns-in-Ok-Session-clause-read_fault_ports
returns-in-Ok-Session-clause-read_fault_ports g c = c.run_session.ensures.read_fault_ports

pub returns-in-Ok-Session-clause-refused_ports : goal.returns-in-Ok-Session-clause-refused_ports
returns-in-Ok-Session-clause-refused_ports g c = c.run_session.ensures.refused_ports

pub returns-in-Ok-Session-clause-refused_bytes_ports : goal.returns-in-Ok-Session-clause-refused_bytes_ports
returns-in-Ok-Session-clause-refused_bytes_ports g c = λ kept none. c.run_session.ensures.refused_bytes_ports kept

pub returns-in-Ok-Load-clause-output : goal.returns-in-Ok-Load-clause-output
returns-in-Ok-Load-clause-output g c = let asked = c.in-Ok-Load.ensures.ok ∙ ap Some c.in-Ok-Load.field-0-is in λ status none. absurd (load_has_words _ _ asked (ap (λ words. asks (texts words)) none))

pub returns-in-Ok-Load-clause-ran_only_session : goal.returns-in-Ok-Load-clause-ran_only_session
returns-in-Ok-Load-clause-ran_only_session g c = let asked = c.in-Ok-Load.ensures.ok ∙ ap Some c.in-Ok-Load.field-0-is in λ status none. absurd (load_has_words _ _ asked (ap (λ words. asks (texts words)) none))

pub returns-in-Ok-Load-clause-load_ends : goal.returns-in-Ok-Load-clause-load_ends
returns-in-Ok-Load-clause-load_ends g c = λ n is. c.run_load.ensures.ends

pub returns-in-Ok-Load-clause-usage : goal.returns-in-Ok-Load-clause-usage
returns-in-Ok-Load-clause-usage g c = let asked = c.in-Ok-Load.ensures.ok ∙ ap Some c.in-Ok-Load.field-0-is in λ is. absurd (load_is_some _ _ asked is)

pub returns-in-Ok-Load-clause-usage_only : goal.returns-in-Ok-Load-clause-usage_only
returns-in-Ok-Load-clause-usage_only g c = λ used. absurd (no_other c.run_load.ensures.ends refl refl refl used)

pub returns-in-Ok-Load-clause-usage_written : goal.returns-in-Ok-Load-clause-usage_written
returns-in-Ok-Load-clause-usage_written g c = λ used. absurd (no_other c.run_load.ensures.ends refl refl refl used)

pub returns-in-Ok-Load-clause-words_read_nothing : goal.returns-in-Ok-Load-clause-words_read_nothing
returns-in-Ok-Load-clause-words_read_nothing g c = λ some other. refl

pub returns-in-Ok-Load-clause-read_fault : goal.returns-in-Ok-Load-clause-read_fault
returns-in-Ok-Load-clause-read_fault g c = λ fault. absurd (no_other c.run_load.ensures.ends refl refl refl fault)

pub returns-in-Ok-Load-clause-read_fault_only : goal.returns-in-Ok-Load-clause-read_fault_only
returns-in-Ok-Load-clause-read_fault_only g c = λ fault. absurd (no_other c.run_load.ensures.ends refl refl refl fault)

pub returns-in-Ok-Load-clause-read_fault_writes_nothing : goal.returns-in-Ok-Load-clause-read_fault_writes_nothing
returns-in-Ok-Load-clause-read_fault_writes_nothing g c = λ fault. absurd (no_other c.run_load.ensures.ends refl refl refl fault)

pub returns-in-Ok-Load-clause-read_front : goal.returns-in-Ok-Load-clause-read_front
returns-in-Ok-Load-clause-read_front g c = ([], consumes_none (g.S.Source.left c.args.source.now))

pub returns-in-Ok-Load-clause-refused : goal.returns-in-Ok-Load-clause-refused
returns-in-Ok-Load-clause-refused g c = let asked = c.in-Ok-Load.ensures.ok ∙ ap Some c.in-Ok-Load.field-0-is in λ none. absurd (load_has_words _ _ asked (ap (λ words. asks (texts words)) none))

pub returns-in-Ok-Load-clause-refused_words : goal.returns-in-Ok-Load-clause-refused_words
returns-in-Ok-Load-clause-refused_words g c = λ refused. absurd (no_other c.run_load.ensures.ends refl refl refl refused)

pub returns-in-Ok-Load-clause-refused_only : goal.returns-in-Ok-Load-clause-refused_only
returns-in-Ok-Load-clause-refused_only g c = let asked = c.in-Ok-Load.ensures.ok ∙ ap Some c.in-Ok-Load.field-0-is in λ status none. absurd (load_has_words _ _ asked (ap (λ words. asks (texts words)) none))

pub returns-in-Ok-Load-clause-refused_read_through : goal.returns-in-Ok-Load-clause-refused_read_through
returns-in-Ok-Load-clause-refused_read_through g c = let asked = c.in-Ok-Load.ensures.ok ∙ ap Some c.in-Ok-Load.field-0-is in λ status none. absurd (load_has_words _ _ asked (ap (λ words. asks (texts words)) none))

pub returns-in-Ok-Load-clause-refused_written : goal.returns-in-Ok-Load-clause-refused_written
returns-in-Ok-Load-clause-refused_written g c = λ refused. absurd (no_other c.run_load.ensures.ends refl refl refl refused)

pub returns-in-Ok-Load-clause-write_fault : goal.returns-in-Ok-Load-clause-write_fault
returns-in-Ok-Load-clause-write_fault g c = c.run_load.ensures.write_fault

pub returns-in-Ok-Load-clause-write_fault_told : goal.returns-in-Ok-Load-clause-write_fault_told
returns-in-Ok-Load-clause-write_fault_told g c = c.run_load.ensures.write_fault_told

pub returns-in-Ok-Load-clause-write_fault_read_through : goal.returns-in-Ok-Load-clause-write_fault_read_through
returns-in-Ok-Load-clause-write_fault_read_through g c = let asked = c.in-Ok-Load.ensures.ok ∙ ap Some c.in-Ok-Load.field-0-is in λ status none. absurd (load_has_words _ _ asked (ap (λ words. asks (texts words)) none))

pub returns-in-Ok-Load-clause-write_fault_front : goal.returns-in-Ok-Load-clause-write_fault_front
returns-in-Ok-Load-clause-write_fault_front g c = let asked = c.in-Ok-Load.ensures.ok ∙ ap Some c.in-Ok-Load.field-0-is in λ status none. absurd (load_has_words _ _ asked (ap (λ words. asks (texts words)) none))

pub returns-in-Ok-Load-clause-usage_front : goal.returns-in-Ok-Load-clause-usage_front
returns-in-Ok-Load-clause-usage_front g c = let asked = c.in-Ok-Load.ensures.ok ∙ ap Some c.in-Ok-Load.field-0-is in λ fault is. absurd (load_is_some _ _ asked is)

pub returns-in-Ok-Load-clause-no_memory_writes_nothing : goal.returns-in-Ok-Load-clause-no_memory_writes_nothing
returns-in-Ok-Load-clause-no_memory_writes_nothing g c = c.run_load.ensures.no_memory

pub returns-in-Ok-Load-clause-complete : goal.returns-in-Ok-Load-clause-complete
returns-in-Ok-Load-clause-complete g c = let asked = c.in-Ok-Load.ensures.ok ∙ ap Some c.in-Ok-Load.field-0-is in λ none. absurd (load_has_words _ _ asked (ap (λ words. asks (texts words)) none))

pub returns-in-Ok-Load-clause-check : goal.returns-in-Ok-Load-clause-check
returns-in-Ok-Load-clause-check g c = let asked = c.in-Ok-Load.ensures.ok ∙ ap Some c.in-Ok-Load.field-0-is in λ is. absurd (load_is_no_check _ _ asked is)

pub returns-in-Ok-Load-clause-check_front : goal.returns-in-Ok-Load-clause-check_front
returns-in-Ok-Load-clause-check_front g c = let asked = c.in-Ok-Load.ensures.ok ∙ ap Some c.in-Ok-Load.field-0-is in λ fault is. absurd (load_is_no_check _ _ asked is)

pub returns-in-Ok-Load-clause-check_read_through : goal.returns-in-Ok-Load-clause-check_read_through
returns-in-Ok-Load-clause-check_read_through g c = let asked = c.in-Ok-Load.ensures.ok ∙ ap Some c.in-Ok-Load.field-0-is in λ is. absurd (load_is_no_check _ _ asked is)

pub returns-in-Ok-Load-clause-no_only : goal.returns-in-Ok-Load-clause-no_only
returns-in-Ok-Load-clause-no_only g c = λ no. absurd (no_other c.run_load.ensures.ends refl refl refl no)

pub returns-in-Ok-Load-clause-check_complete : goal.returns-in-Ok-Load-clause-check_complete
returns-in-Ok-Load-clause-check_complete g c = let asked = c.in-Ok-Load.ensures.ok ∙ ap Some c.in-Ok-Load.field-0-is in λ is. absurd (load_is_no_check _ _ asked is)

pub returns-in-Ok-Load-clause-yes : goal.returns-in-Ok-Load-clause-yes
returns-in-Ok-Load-clause-yes g c = let asked = c.in-Ok-Load.ensures.ok ∙ ap Some c.in-Ok-Load.field-0-is in λ is. absurd (load_is_no_check _ _ asked is)

pub returns-in-Ok-Load-clause-yes_complete : goal.returns-in-Ok-Load-clause-yes_complete
returns-in-Ok-Load-clause-yes_complete g c = let asked = c.in-Ok-Load.ensures.ok ∙ ap Some c.in-Ok-Load.field-0-is in λ is. absurd (load_is_no_check _ _ asked is)

pub returns-in-Ok-Load-clause-ports_there : goal.returns-in-Ok-Load-clause-ports_there
returns-in-Ok-Load-clause-ports_there g c = c.run_load.ensures.ports_there

pub returns-in-Ok-Load-clause-other_ports : goal.returns-in-Ok-Load-clause-other_ports
returns-in-Ok-Load-clause-other_ports g c = let asked = c.in-Ok-Load.ensures.ok ∙ ap Some c.in-Ok-Load.field-0-is in λ kept none. absurd (load_has_words _ _ asked (ap (λ words. asks (texts words)) none))

pub returns-in-Ok-Load-clause-load_ports : goal.returns-in-Ok-Load-clause-load_ports
returns-in-Ok-Load-clause-load_ports g c = λ n is. c.run_load.ensures.other_ports

pub returns-in-Ok-Load-clause-load_maps : goal.returns-in-Ok-Load-clause-load_maps
returns-in-Ok-Load-clause-load_maps g c = λ kept n is. c.run_load.ensures.bare kept

pub returns-in-Ok-Load-clause-check_ports : goal.returns-in-Ok-Load-clause-check_ports
returns-in-Ok-Load-clause-check_ports g c = let asked = c.in-Ok-Load.ensures.ok ∙ ap Some c.in-Ok-Load.field-0-is in λ is. absurd (load_is_no_check _ _ asked is)

pub returns-in-Ok-Load-clause-usage_ports : goal.returns-in-Ok-Load-clause-usage_ports
returns-in-Ok-Load-clause-usage_ports g c = let asked = c.in-Ok-Load.ensures.ok ∙ ap Some c.in-Ok-Load.field-0-is in λ is. absurd (load_is_some _ _ asked is)

pub returns-in-Ok-Load-clause-read_fault_ports : goal.returns-in-Ok-Load-clause-read_fault_ports
returns-in-Ok-Load-clause-read_fault_ports g c = λ fault. absurd (no_other c.run_load.ensures.ends refl refl refl fault)

pub returns-in-Ok-Load-clause-refused_ports : goal.returns-in-Ok-Load-clause-refused_ports
returns-in-Ok-Load-clause-refused_ports g c = λ refused. absurd (no_other c.run_load.ensures.ends refl refl refl refused)

pub returns-in-Ok-Load-clause-refused_bytes_ports : goal.returns-in-Ok-Load-clause-refused_bytes_ports
returns-in-Ok-Load-clause-refused_bytes_ports g c = let asked = c.in-Ok-Load.ensures.ok ∙ ap Some c.in-Ok-Load.field-0-is in λ kept none. absurd (load_has_words _ _ asked (ap (λ words. asks (texts words)) none))

pub returns-in-Err-Usage-clause-output : goal.returns-in-Err-Usage-clause-output
returns-in-Err-Usage-clause-output g c = let unasked = c.in-Err-Usage.ensures.usage.0 (ap Err c.in-Err-Usage.field-0-is) in λ status none. absurd (none_has_words _ unasked (ap (λ words. asks (texts words)) none))

pub returns-in-Err-Usage-clause-ran_only_session : goal.returns-in-Err-Usage-clause-ran_only_session
returns-in-Err-Usage-clause-ran_only_session g c = let unasked = c.in-Err-Usage.ensures.usage.0 (ap Err c.in-Err-Usage.field-0-is) in λ status none. absurd (none_has_words _ unasked (ap (λ words. asks (texts words)) none))

pub returns-in-Err-Usage-clause-load : goal.returns-in-Err-Usage-clause-load
returns-in-Err-Usage-clause-load g c = let unasked = c.in-Err-Usage.ensures.usage.0 (ap Err c.in-Err-Usage.field-0-is) in λ ran n is. absurd (none_is_no_load _ n unasked is)

pub returns-in-Err-Usage-clause-load_ends : goal.returns-in-Err-Usage-clause-load_ends
returns-in-Err-Usage-clause-load_ends g c = let unasked = c.in-Err-Usage.ensures.usage.0 (ap Err c.in-Err-Usage.field-0-is) in λ n is. absurd (none_is_no_load _ n unasked is)

pub returns-in-Err-Usage-clause-usage_only : goal.returns-in-Err-Usage-clause-usage_only
returns-in-Err-Usage-clause-usage_only g c = let unasked = c.in-Err-Usage.ensures.usage.0 (ap Err c.in-Err-Usage.field-0-is) in λ used. unasked

pub returns-in-Err-Usage-clause-words_read_nothing : goal.returns-in-Err-Usage-clause-words_read_nothing
returns-in-Err-Usage-clause-words_read_nothing g c = λ some other. refl

pub returns-in-Err-Usage-clause-read_front : goal.returns-in-Err-Usage-clause-read_front
returns-in-Err-Usage-clause-read_front g c = ([], consumes_none (g.S.Source.left c.args.source.now))

pub returns-in-Err-Usage-clause-refused : goal.returns-in-Err-Usage-clause-refused
returns-in-Err-Usage-clause-refused g c = let unasked = c.in-Err-Usage.ensures.usage.0 (ap Err c.in-Err-Usage.field-0-is) in λ none. absurd (none_has_words _ unasked (ap (λ words. asks (texts words)) none))

pub returns-in-Err-Usage-clause-refused_only : goal.returns-in-Err-Usage-clause-refused_only
returns-in-Err-Usage-clause-refused_only g c = let unasked = c.in-Err-Usage.ensures.usage.0 (ap Err c.in-Err-Usage.field-0-is) in λ status none. absurd (none_has_words _ unasked (ap (λ words. asks (texts words)) none))

pub returns-in-Err-Usage-clause-refused_read_through : goal.returns-in-Err-Usage-clause-refused_read_through
returns-in-Err-Usage-clause-refused_read_through g c = let unasked = c.in-Err-Usage.ensures.usage.0 (ap Err c.in-Err-Usage.field-0-is) in λ status none. absurd (none_has_words _ unasked (ap (λ words. asks (texts words)) none))

pub returns-in-Err-Usage-clause-write_fault_read_through : goal.returns-in-Err-Usage-clause-write_fault_read_through
returns-in-Err-Usage-clause-write_fault_read_through g c = let unasked = c.in-Err-Usage.ensures.usage.0 (ap Err c.in-Err-Usage.field-0-is) in λ status none. absurd (none_has_words _ unasked (ap (λ words. asks (texts words)) none))

pub returns-in-Err-Usage-clause-write_fault_front : goal.returns-in-Err-Usage-clause-write_fault_front
returns-in-Err-Usage-clause-write_fault_front g c = let unasked = c.in-Err-Usage.ensures.usage.0 (ap Err c.in-Err-Usage.field-0-is) in λ status none. absurd (none_has_words _ unasked (ap (λ words. asks (texts words)) none))

pub returns-in-Err-Usage-clause-load_front : goal.returns-in-Err-Usage-clause-load_front
returns-in-Err-Usage-clause-load_front g c = let unasked = c.in-Err-Usage.ensures.usage.0 (ap Err c.in-Err-Usage.field-0-is) in λ fault n is. absurd (none_is_no_load _ n unasked is)

pub returns-in-Err-Usage-clause-complete : goal.returns-in-Err-Usage-clause-complete
returns-in-Err-Usage-clause-complete g c = let unasked = c.in-Err-Usage.ensures.usage.0 (ap Err c.in-Err-Usage.field-0-is) in λ none. absurd (none_has_words _ unasked (ap (λ words. asks (texts words)) none))

pub returns-in-Err-Usage-clause-load_complete : goal.returns-in-Err-Usage-clause-load_complete
returns-in-Err-Usage-clause-load_complete g c = let unasked = c.in-Err-Usage.ensures.usage.0 (ap Err c.in-Err-Usage.field-0-is) in λ n is. absurd (none_is_no_load _ n unasked is)

pub returns-in-Err-Usage-clause-check : goal.returns-in-Err-Usage-clause-check
returns-in-Err-Usage-clause-check g c = let unasked = c.in-Err-Usage.ensures.usage.0 (ap Err c.in-Err-Usage.field-0-is) in λ is. absurd (none_is_no_check _ unasked is)

pub returns-in-Err-Usage-clause-check_front : goal.returns-in-Err-Usage-clause-check_front
returns-in-Err-Usage-clause-check_front g c = let unasked = c.in-Err-Usage.ensures.usage.0 (ap Err c.in-Err-Usage.field-0-is) in λ fault is. absurd (none_is_no_check _ unasked is)

pub returns-in-Err-Usage-clause-check_read_through : goal.returns-in-Err-Usage-clause-check_read_through
returns-in-Err-Usage-clause-check_read_through g c = let unasked = c.in-Err-Usage.ensures.usage.0 (ap Err c.in-Err-Usage.field-0-is) in λ is. absurd (none_is_no_check _ unasked is)

pub returns-in-Err-Usage-clause-check_complete : goal.returns-in-Err-Usage-clause-check_complete
returns-in-Err-Usage-clause-check_complete g c = let unasked = c.in-Err-Usage.ensures.usage.0 (ap Err c.in-Err-Usage.field-0-is) in λ is. absurd (none_is_no_check _ unasked is)

pub returns-in-Err-Usage-clause-yes : goal.returns-in-Err-Usage-clause-yes
returns-in-Err-Usage-clause-yes g c = let unasked = c.in-Err-Usage.ensures.usage.0 (ap Err c.in-Err-Usage.field-0-is) in λ is. absurd (none_is_no_check _ unasked is)

pub returns-in-Err-Usage-clause-yes_complete : goal.returns-in-Err-Usage-clause-yes_complete
returns-in-Err-Usage-clause-yes_complete g c = let unasked = c.in-Err-Usage.ensures.usage.0 (ap Err c.in-Err-Usage.field-0-is) in λ is. absurd (none_is_no_check _ unasked is)

pub returns-in-Err-Usage-clause-ports_there : goal.returns-in-Err-Usage-clause-ports_there
returns-in-Err-Usage-clause-ports_there g c = λ kept. c.requires.ports

pub returns-in-Err-Usage-clause-other_ports : goal.returns-in-Err-Usage-clause-other_ports
returns-in-Err-Usage-clause-other_ports g c = let unasked = c.in-Err-Usage.ensures.usage.0 (ap Err c.in-Err-Usage.field-0-is) in λ kept none. absurd (none_has_words _ unasked (ap (λ words. asks (texts words)) none))

pub returns-in-Err-Usage-clause-load_ports : goal.returns-in-Err-Usage-clause-load_ports
returns-in-Err-Usage-clause-load_ports g c = let unasked = c.in-Err-Usage.ensures.usage.0 (ap Err c.in-Err-Usage.field-0-is) in λ n is. absurd (none_is_no_load _ n unasked is)

pub returns-in-Err-Usage-clause-load_maps : goal.returns-in-Err-Usage-clause-load_maps
returns-in-Err-Usage-clause-load_maps g c = let unasked = c.in-Err-Usage.ensures.usage.0 (ap Err c.in-Err-Usage.field-0-is) in λ kept n is. absurd (none_is_no_load _ n unasked is)

pub returns-in-Err-Usage-clause-check_ports : goal.returns-in-Err-Usage-clause-check_ports
returns-in-Err-Usage-clause-check_ports g c = λ is. refl

pub returns-in-Err-Usage-clause-usage_ports : goal.returns-in-Err-Usage-clause-usage_ports
returns-in-Err-Usage-clause-usage_ports g c = λ is. refl

pub returns-in-Err-Usage-clause-read_fault_ports : goal.returns-in-Err-Usage-clause-read_fault_ports
returns-in-Err-Usage-clause-read_fault_ports g c = λ fault. refl

pub returns-in-Err-Usage-clause-refused_ports : goal.returns-in-Err-Usage-clause-refused_ports
returns-in-Err-Usage-clause-refused_ports g c = λ refused. refl

pub returns-in-Err-Usage-clause-refused_bytes_ports : goal.returns-in-Err-Usage-clause-refused_bytes_ports
returns-in-Err-Usage-clause-refused_bytes_ports g c = let unasked = c.in-Err-Usage.ensures.usage.0 (ap Err c.in-Err-Usage.field-0-is) in λ kept none. absurd (none_has_words _ unasked (ap (λ words. asks (texts words)) none))

pub returns-in-Ok-Check-clause-output : goal.returns-in-Ok-Check-clause-output
returns-in-Ok-Check-clause-output g c = let asked = c.in-Ok-Check.ensures.ok ∙ ap Some c.in-Ok-Check.field-0-is in λ status none. absurd (check_has_words _ asked (ap (λ words. asks (texts words)) none))

pub returns-in-Ok-Check-clause-ran_only_session : goal.returns-in-Ok-Check-clause-ran_only_session
returns-in-Ok-Check-clause-ran_only_session g c = let asked = c.in-Ok-Check.ensures.ok ∙ ap Some c.in-Ok-Check.field-0-is in λ status none. absurd (check_has_words _ asked (ap (λ words. asks (texts words)) none))

pub returns-in-Ok-Check-clause-load : goal.returns-in-Ok-Check-clause-load
returns-in-Ok-Check-clause-load g c = let asked = c.in-Ok-Check.ensures.ok ∙ ap Some c.in-Ok-Check.field-0-is in λ ran n is. absurd (check_is_no_load _ n asked is)

pub returns-in-Ok-Check-clause-load_ends : goal.returns-in-Ok-Check-clause-load_ends
returns-in-Ok-Check-clause-load_ends g c = let asked = c.in-Ok-Check.ensures.ok ∙ ap Some c.in-Ok-Check.field-0-is in λ n is. absurd (check_is_no_load _ n asked is)

pub returns-in-Ok-Check-clause-usage : goal.returns-in-Ok-Check-clause-usage
returns-in-Ok-Check-clause-usage g c = let asked = c.in-Ok-Check.ensures.ok ∙ ap Some c.in-Ok-Check.field-0-is in λ is. absurd (check_is_some _ asked is)

pub returns-in-Ok-Check-clause-words_read_nothing : goal.returns-in-Ok-Check-clause-words_read_nothing
returns-in-Ok-Check-clause-words_read_nothing g c = let asked = c.in-Ok-Check.ensures.ok ∙ ap Some c.in-Ok-Check.field-0-is in λ some other. absurd (other asked)

pub returns-in-Ok-Check-clause-read_fault : goal.returns-in-Ok-Check-clause-read_fault
returns-in-Ok-Check-clause-read_fault g c = c.run_check.ensures.read_fault

pub returns-in-Ok-Check-clause-read_fault_only : goal.returns-in-Ok-Check-clause-read_fault_only
returns-in-Ok-Check-clause-read_fault_only g c = let asked = c.in-Ok-Check.ensures.ok ∙ ap Some c.in-Ok-Check.field-0-is in λ fault. inr asked

pub returns-in-Ok-Check-clause-read_fault_writes_nothing : goal.returns-in-Ok-Check-clause-read_fault_writes_nothing
returns-in-Ok-Check-clause-read_fault_writes_nothing g c = c.run_check.ensures.read_fault_writes_nothing

pub returns-in-Ok-Check-clause-read_fault_told : goal.returns-in-Ok-Check-clause-read_fault_told
returns-in-Ok-Check-clause-read_fault_told g c = c.run_check.ensures.read_fault_told

pub returns-in-Ok-Check-clause-read_front : goal.returns-in-Ok-Check-clause-read_front
returns-in-Ok-Check-clause-read_front g c = c.run_check.ensures.read_front

pub returns-in-Ok-Check-clause-refused : goal.returns-in-Ok-Check-clause-refused
returns-in-Ok-Check-clause-refused g c = let asked = c.in-Ok-Check.ensures.ok ∙ ap Some c.in-Ok-Check.field-0-is in λ none. absurd (check_has_words _ asked (ap (λ words. asks (texts words)) none))

pub returns-in-Ok-Check-clause-refused_words : goal.returns-in-Ok-Check-clause-refused_words
returns-in-Ok-Check-clause-refused_words g c = let asked = c.in-Ok-Check.ensures.ok ∙ ap Some c.in-Ok-Check.field-0-is in λ refused. inr asked

pub returns-in-Ok-Check-clause-refused_only : goal.returns-in-Ok-Check-clause-refused_only
returns-in-Ok-Check-clause-refused_only g c = let asked = c.in-Ok-Check.ensures.ok ∙ ap Some c.in-Ok-Check.field-0-is in λ status none. absurd (check_has_words _ asked (ap (λ words. asks (texts words)) none))

pub returns-in-Ok-Check-clause-refused_read_through : goal.returns-in-Ok-Check-clause-refused_read_through
returns-in-Ok-Check-clause-refused_read_through g c = let asked = c.in-Ok-Check.ensures.ok ∙ ap Some c.in-Ok-Check.field-0-is in λ status none. absurd (check_has_words _ asked (ap (λ words. asks (texts words)) none))

pub returns-in-Ok-Check-clause-refused_written : goal.returns-in-Ok-Check-clause-refused_written
returns-in-Ok-Check-clause-refused_written g c = c.run_check.ensures.refused

pub returns-in-Ok-Check-clause-write_fault : goal.returns-in-Ok-Check-clause-write_fault
returns-in-Ok-Check-clause-write_fault g c = c.run_check.ensures.write_fault

pub returns-in-Ok-Check-clause-write_fault_told : goal.returns-in-Ok-Check-clause-write_fault_told
returns-in-Ok-Check-clause-write_fault_told g c = c.run_check.ensures.write_fault_told

pub returns-in-Ok-Check-clause-write_fault_read_through : goal.returns-in-Ok-Check-clause-write_fault_read_through
returns-in-Ok-Check-clause-write_fault_read_through g c = let asked = c.in-Ok-Check.ensures.ok ∙ ap Some c.in-Ok-Check.field-0-is in λ status none. absurd (check_has_words _ asked (ap (λ words. asks (texts words)) none))

pub returns-in-Ok-Check-clause-write_fault_front : goal.returns-in-Ok-Check-clause-write_fault_front
returns-in-Ok-Check-clause-write_fault_front g c = let asked = c.in-Ok-Check.ensures.ok ∙ ap Some c.in-Ok-Check.field-0-is in λ status none. absurd (check_has_words _ asked (ap (λ words. asks (texts words)) none))

pub returns-in-Ok-Check-clause-load_front : goal.returns-in-Ok-Check-clause-load_front
returns-in-Ok-Check-clause-load_front g c = let asked = c.in-Ok-Check.ensures.ok ∙ ap Some c.in-Ok-Check.field-0-is in λ fault n is. absurd (check_is_no_load _ n asked is)

pub returns-in-Ok-Check-clause-usage_front : goal.returns-in-Ok-Check-clause-usage_front
returns-in-Ok-Check-clause-usage_front g c = let asked = c.in-Ok-Check.ensures.ok ∙ ap Some c.in-Ok-Check.field-0-is in λ fault is. absurd (check_is_some _ asked is)

pub returns-in-Ok-Check-clause-no_memory_writes_nothing : goal.returns-in-Ok-Check-clause-no_memory_writes_nothing
returns-in-Ok-Check-clause-no_memory_writes_nothing g c = c.run_check.ensures.no_memory

pub returns-in-Ok-Check-clause-complete : goal.returns-in-Ok-Check-clause-complete
returns-in-Ok-Check-clause-complete g c = let asked = c.in-Ok-Check.ensures.ok ∙ ap Some c.in-Ok-Check.field-0-is in λ none. absurd (check_has_words _ asked (ap (λ words. asks (texts words)) none))

pub returns-in-Ok-Check-clause-load_complete : goal.returns-in-Ok-Check-clause-load_complete
returns-in-Ok-Check-clause-load_complete g c = let asked = c.in-Ok-Check.ensures.ok ∙ ap Some c.in-Ok-Check.field-0-is in λ n is. absurd (check_is_no_load _ n asked is)

pub returns-in-Ok-Check-clause-check : goal.returns-in-Ok-Check-clause-check
returns-in-Ok-Check-clause-check g c = λ is. c.run_check.ensures.judged

pub returns-in-Ok-Check-clause-check_front : goal.returns-in-Ok-Check-clause-check_front
returns-in-Ok-Check-clause-check_front g c = λ fault is. c.run_check.ensures.front fault

pub returns-in-Ok-Check-clause-check_read_through : goal.returns-in-Ok-Check-clause-check_read_through
returns-in-Ok-Check-clause-check_read_through g c = λ is. c.run_check.ensures.read_through

pub returns-in-Ok-Check-clause-no_only : goal.returns-in-Ok-Check-clause-no_only
returns-in-Ok-Check-clause-no_only g c = let asked = c.in-Ok-Check.ensures.ok ∙ ap Some c.in-Ok-Check.field-0-is in λ no. asked

pub returns-in-Ok-Check-clause-check_complete : goal.returns-in-Ok-Check-clause-check_complete
returns-in-Ok-Check-clause-check_complete g c = λ is. c.run_check.ensures.complete

pub returns-in-Ok-Check-clause-yes : goal.returns-in-Ok-Check-clause-yes
returns-in-Ok-Check-clause-yes g c = λ is. c.run_check.ensures.yes

pub returns-in-Ok-Check-clause-yes_complete : goal.returns-in-Ok-Check-clause-yes_complete
returns-in-Ok-Check-clause-yes_complete g c = λ is. c.run_check.ensures.yes_complete

pub returns-in-Ok-Check-clause-ports_there : goal.returns-in-Ok-Check-clause-ports_there
returns-in-Ok-Check-clause-ports_there g c = λ kept. c.requires.ports

pub returns-in-Ok-Check-clause-other_ports : goal.returns-in-Ok-Check-clause-other_ports
returns-in-Ok-Check-clause-other_ports g c = let asked = c.in-Ok-Check.ensures.ok ∙ ap Some c.in-Ok-Check.field-0-is in λ kept none. absurd (check_has_words _ asked (ap (λ words. asks (texts words)) none))

pub returns-in-Ok-Check-clause-load_ports : goal.returns-in-Ok-Check-clause-load_ports
returns-in-Ok-Check-clause-load_ports g c = let asked = c.in-Ok-Check.ensures.ok ∙ ap Some c.in-Ok-Check.field-0-is in λ n is. absurd (check_is_no_load _ n asked is)

pub returns-in-Ok-Check-clause-load_maps : goal.returns-in-Ok-Check-clause-load_maps
returns-in-Ok-Check-clause-load_maps g c = let asked = c.in-Ok-Check.ensures.ok ∙ ap Some c.in-Ok-Check.field-0-is in λ kept n is. absurd (check_is_no_load _ n asked is)

pub returns-in-Ok-Check-clause-check_ports : goal.returns-in-Ok-Check-clause-check_ports
returns-in-Ok-Check-clause-check_ports g c = λ is. refl

pub returns-in-Ok-Check-clause-usage_ports : goal.returns-in-Ok-Check-clause-usage_ports
returns-in-Ok-Check-clause-usage_ports g c = λ is. refl

pub returns-in-Ok-Check-clause-read_fault_ports : goal.returns-in-Ok-Check-clause-read_fault_ports
returns-in-Ok-Check-clause-read_fault_ports g c = λ fault. refl

pub returns-in-Ok-Check-clause-refused_ports : goal.returns-in-Ok-Check-clause-refused_ports
returns-in-Ok-Check-clause-refused_ports g c = λ refused. refl

pub returns-in-Ok-Check-clause-refused_bytes_ports : goal.returns-in-Ok-Check-clause-refused_bytes_ports
returns-in-Ok-Check-clause-refused_bytes_ports g c = let asked = c.in-Ok-Check.ensures.ok ∙ ap Some c.in-Ok-Check.field-0-is in λ kept none. absurd (check_has_words _ asked (ap (λ words. asks (texts words)) none))

pub run_load-requires-clause-turns : goal.run_load-requires-clause-turns
run_load-requires-clause-turns g c κs within = c.loads_are_within.ensures (texts c.args.words.now) _ (c.in-Ok-Load.ensures.ok ∙ ap Some c.in-Ok-Load.field-0-is)

pub returns-in-Ok-Load-clause-load_complete : goal.returns-in-Ok-Load-clause-load_complete
returns-in-Ok-Load-clause-load_complete g c = λ n is still. ⊎_elim (λ ran. inl ran) (⊎_elim (λ fault. absurd (still (c.run_load.ensures.write_fault fault))) (λ full. inr full)) c.run_load.ensures.ends

pub returns-in-Err-Usage-clause-read_fault : goal.returns-in-Err-Usage-clause-read_fault
returns-in-Err-Usage-clause-read_fault g c = λ fault. absurd (no_third c.finish.ensures.one refl refl fault)

pub returns-in-Err-Usage-clause-read_fault_only : goal.returns-in-Err-Usage-clause-read_fault_only
returns-in-Err-Usage-clause-read_fault_only g c = λ fault. absurd (no_third c.finish.ensures.one refl refl fault)

pub returns-in-Err-Usage-clause-read_fault_writes_nothing : goal.returns-in-Err-Usage-clause-read_fault_writes_nothing
returns-in-Err-Usage-clause-read_fault_writes_nothing g c = λ fault. absurd (no_third c.finish.ensures.one refl refl fault)

pub returns-in-Err-Usage-clause-refused_words : goal.returns-in-Err-Usage-clause-refused_words
returns-in-Err-Usage-clause-refused_words g c = λ refused. absurd (no_third c.finish.ensures.one refl refl refused)

pub returns-in-Err-Usage-clause-refused_written : goal.returns-in-Err-Usage-clause-refused_written
returns-in-Err-Usage-clause-refused_written g c = λ refused. absurd (no_third c.finish.ensures.one refl refl refused)

pub returns-in-Err-Usage-clause-no_memory_writes_nothing : goal.returns-in-Err-Usage-clause-no_memory_writes_nothing
returns-in-Err-Usage-clause-no_memory_writes_nothing g c = λ full. absurd (no_third c.finish.ensures.one refl refl full)

pub returns-in-Err-Usage-clause-write_fault : goal.returns-in-Err-Usage-clause-write_fault
returns-in-Err-Usage-clause-write_fault g c = c.finish.ensures.fault

pub returns-in-Err-Usage-clause-usage_front : goal.returns-in-Err-Usage-clause-usage_front
returns-in-Err-Usage-clause-usage_front g c = λ fault is. c.finish.ensures.front fault

pub returns-clause-load : goal.returns-clause-load
returns-clause-load g c = λ ran. absurd (apart refl ran)

pub returns-clause-read_fault : goal.returns-clause-read_fault
returns-clause-read_fault g c = λ fault. absurd (apart refl fault)

pub returns-clause-write_fault : goal.returns-clause-write_fault
returns-clause-write_fault g c = λ fault. absurd (apart refl fault)

pub returns-clause-load_front : goal.returns-clause-load_front
returns-clause-load_front g c = λ fault. absurd (apart refl fault)

pub returns-clause-read_front : goal.returns-clause-read_front
returns-clause-read_front g c = ([], consumes_none (g.S.Source.left c.args.source.now))
