-- What was written is the report on what was read, or its first bytes, or nothing. `check_text` says what it means.
use Rattle.check_main.proofs.Imports.{IsNoSmallDesignText, IsRightInFull, IsWrongIfPlain, LinesHaveMeaning, No, Refused}
use Rattle.check_main.proofs.Imports.{refl}
use Rattle.check_main.proofs.RightStreams.{nothing_promised, outcome_means, outcome_tells, yes_promised}
use Rattle.check_main.proofs.stream.check_stream.Goals as goal

pub returns-in_err-feed-clause-in_full : goal.returns-in_err-feed-clause-in_full
returns-in_err-feed-clause-in_full g c =
    nothing_promised IsRightInFull _ (g.R.Source.left c.args.reader.now) (g.W.Sink.written_bytes c.args.writer.now)
    (g.W.Sink.written_bytes c.args.writer.now) (λ is. rw is at c.from_residual.ensures.1) refl

pub returns-in_err-answered-clause-in_full : goal.returns-in_err-answered-clause-in_full
returns-in_err-answered-clause-in_full g c =
    nothing_promised IsRightInFull _ (g.R.Source.left c.args.reader.now) (g.W.Sink.written_bytes c.args.writer.now)
    (g.W.Sink.written_bytes c.args.writer.now) (λ is. rw is at c.from_residual-in_err-answered.ensures.1) refl

pub returns-clause-in_full : goal.returns-clause-in_full
returns-clause-in_full g c =
    yes_promised IsRightInFull (g.R.Source.left c.args.reader.now) (g.R.Source.left c.read_text.new.reader)
    (g.W.Sink.written_bytes c.args.writer.now) (g.W.Sink.written_bytes c.write_answer.new.writer)
    c.in_ok-feed.feed.text c.in_ok-answered.answered.output.items c.in_ok-answered.answered.outcome
    c.in_ok-answered.ensures.fourth_line c.in_ok-answered.ensures.in_full c.in_ok-feed.ensures.read_all
    c.write_answer.result c.write_answer.ensures.outcome c.write_answer.ensures.all c.write_answer.ensures.prefix

pub returns-clause-wrong : goal.returns-clause-wrong
returns-clause-wrong g c is =
    outcome_means IsWrongIfPlain No (g.R.Source.left c.args.reader.now) (g.R.Source.left c.read_text.new.reader)
    c.in_ok-feed.feed.text c.in_ok-answered.answered.outcome c.in_ok-answered.ensures.wrong
    c.in_ok-feed.ensures.read_all c.write_answer.result is c.write_answer.ensures.outcome

pub returns-clause-lines : goal.returns-clause-lines
returns-clause-lines g c is =
    outcome_tells LinesHaveMeaning No (g.R.Source.left c.args.reader.now) (g.R.Source.left c.read_text.new.reader)
    (g.W.Sink.written_bytes c.args.writer.now) (g.W.Sink.written_bytes c.write_answer.new.writer)
    c.in_ok-feed.feed.text c.in_ok-answered.answered.output.items c.in_ok-answered.answered.outcome
    c.in_ok-answered.ensures.lines c.in_ok-feed.ensures.read_all c.write_answer.result is
    c.write_answer.ensures.outcome c.write_answer.ensures.all

pub returns-clause-refused_not_small : goal.returns-clause-refused_not_small
returns-clause-refused_not_small g c is =
    outcome_means IsNoSmallDesignText Refused (g.R.Source.left c.args.reader.now)
    (g.R.Source.left c.read_text.new.reader) c.in_ok-feed.feed.text c.in_ok-answered.answered.outcome
    c.in_ok-answered.ensures.refused_not_small c.in_ok-feed.ensures.read_all c.write_answer.result is
    c.write_answer.ensures.outcome
