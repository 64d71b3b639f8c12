use Rattle.std.proofs.Common.{rules}
use Rattle.answers.specs.RunText.{IsRunAnswerOf}
use Rattle.check_main.proofs.RightStreams.{broken_off}
use Rattle.check_main.proofs.stream.run_stream.Goals as goal

pub returns : goal.returns
returns g c = record {
  serves = record {
    answered = search rules;
    works = search rules;
    read = search rules;
    too_long = search rules;
    write = search rules;
    prefix = broken_off IsRunAnswerOf _ _ _ _ c.in_ok-feed.feed.text c.in_ok-answered.answered.output.items
        c.in_ok-answered.answered.outcome c.write_answer.result c.in_ok-feed.ensures.read_all (search rules)
        c.write_answer.ensures.prefix;
    unwritten = search rules;
  };
}
