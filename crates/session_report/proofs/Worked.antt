-- Worked reports, by computation.
use Rattle.std.proofs.Common.{◌≡◌, [], ◌∷◌, ◌++◌, codes, refl}
use Rattle.std.specs.Fmt.{digits}
use Rattle.unit_streams.specs.Judging.{history, history_from}
use Rattle.unit_streams.specs.Tellers.{report as report_by, state_behind, told_along}
use Rattle.nbfx_values.specs.{declared.session.Kind.TheVariants.Session, Limits.usual_limits}
use Rattle.nbfx_values.specs.declared.session.Mode.{Mode, TheVariants.Duplex, TheVariants.Simplex}
use Rattle.stream_reader.proofs.OnLiterals.{of_session, plain_preamble, preamble}
use Rattle.stream_reader.proofs.OnLiterals.{streams_on_literals, usual}
use Rattle.stream_reader.specs.Stream.{receivers, Settings}
use Rattle.line_notation.specs.{Lines.items_text, Quoted.quoted}
use Rattle.command_words.specs.declared.task.Detail.TheVariants.{Summary, Whole}
use Rattle.session_report.specs.Report.{offence_line, report}

one_text : report Summary usual (plain_preamble ++ 6 ∷ 7 ∷ 64 ∷ 1 ∷ 120 ∷ 153 ∷ 2 ∷ 104 ∷ 105 ∷ 7
    ∷ [])
    ≡ codes "open duplex 7 \"net.tcp://h/e\"\nmessage 0 payload 7 items 3 depth 1 content 3 strings 0 used 0\nended 33\n"
unfolding streams_on_literals digits history history_from quoted items_text offence_line report_by
    told_along state_behind
one_text = refl

one_text_dumped : report Whole usual (plain_preamble ++ 6 ∷ 7 ∷ 64 ∷ 1 ∷ 120 ∷ 153 ∷ 2 ∷ 104 ∷ 105
    ∷ 7 ∷ [])
    ≡ codes "open duplex 7 \"net.tcp://h/e\"\nmessage 0 payload 7 items 3 depth 1 content 3 strings 0 used 0\nstart \"\" \"x\"\ntext string \"hi\"\nclose\nended 33\n"
unfolding streams_on_literals digits history history_from quoted items_text offence_line report_by
    told_along state_behind
one_text_dumped = refl

no_record : report Whole usual (preamble ++ 6 ∷ 16 ∷ 0 ∷ 64 ∷ 1 ∷ 120 ∷ 127 ∷ [])
    ≡ codes "open duplex 8 \"net.tcp://h/e\"\noffence payload 0 4 15 UnknownNode\n"
unfolding streams_on_literals digits history history_from quoted items_text offence_line report_by
    told_along state_behind
no_record = refl

too_long : report Summary (of_session 23) (preamble ++ 7 ∷ [])
    ≡ codes "open duplex 8 \"net.tcp://h/e\"\noffence frame 23 25 SessionTooLong\n"
unfolding streams_on_literals digits history history_from quoted items_text offence_line report_by
    told_along state_behind
too_long = refl

-- replies of a session in this mode
abbrev replies : Mode → Settings
replies mode =
    record { side = receivers mode Session; statics = []; limits = usual_limits }

lone_ack_ends : report Summary (replies Simplex) (11 ∷ []) ≡ codes "accepted\nended 1\n"
unfolding streams_on_literals digits history history_from quoted items_text offence_line report_by
    told_along state_behind
lone_ack_ends = refl

lone_ack_is_cut : report Summary (replies Duplex) (11 ∷ [])
    ≡ codes "accepted\noffence frame 1 24 Truncated\n"
unfolding streams_on_literals digits history history_from quoted items_text offence_line report_by
    told_along state_behind
lone_ack_is_cut = refl

fault_ends : report Summary (replies Duplex) (11 ∷ 8 ∷ 129 ∷ 0 ∷ 97 ∷ [])
    ≡ codes "accepted\nfault 5 \"a\"\n"
unfolding streams_on_literals digits history history_from quoted items_text offence_line report_by
    told_along state_behind
fault_ends = refl
