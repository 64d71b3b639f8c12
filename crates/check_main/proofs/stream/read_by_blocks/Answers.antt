-- The piece that does not fit has the byte past the limit.
use Rattle.check_main.proofs.Imports.{Consumes, Err, FeedView, List, None, ap, arith, false, length, length-append}
use Rattle.check_main.proofs.Imports.{own_text_limit, subst, sym, take, ℕ, ◌++◌, ◌+◌, ◌<◌, ◌∙◌, ◌≡◌}
use Rattle.std.proofs.Common.{rules}
use Rattle.std.proofs.KnownBytes.{Consumes-trans}
use Rattle.check_main.specs.Stream.{IsTextPastLimit}
use Rattle.check_main.proofs.stream.read_by_blocks.Goals as goal

pub returns-in-Err-TooLong-clause-too_long : goal.returns-in-Err-TooLong-clause-too_long
unfolding IsTextPastLimit
returns-in-Err-TooLong-clause-too_long g c _ =
    let so_far = c.loop.feed.text in
    let more = take c.in-Ok.count c.read.new.buf in
    let over : own_text_limit (so_far ++ more) < length so_far + length more =
    c.in-Err-TooLong.ensures.too_long.0 (ap (λ e. Err e) c.in-Err-TooLong.field-0-is) in
    record {
      text = so_far ++ more;
      given = Consumes-trans _ _ _ _ _ c.loop.invariant.1 c.in-Ok.ensures.bytes.0;
      beyond = rw length-append over;
    }

pub loop-preserved : goal.loop-preserved
loop-preserved g c =
    let so_far = c.loop.feed in
    let more = take c.in-Ok.count c.read.new.buf in
    let pushed : c.push.new.self ≡ record so_far { text = so_far.text ++ more } = search rules in
    let i = c.loop.invariant in
    let text : c.push.new.self.text ≡ so_far.text ++ more = ap (λ (f : FeedView). f.text) pushed in
    let some : 0 < length more = search rules in
    let long = ap length text ∙ length-append so_far.text more in (
      search rules,
      subst (Consumes (g.R.Source.left c.args.reader.now) (g.R.Source.left c.read.new.self)) (sym text)
          (Consumes-trans _ _ _ _ _ i.1 c.in-Ok.ensures.bytes.0),
      omega (arith, i.2, some, long),
      c.push.ensures.text_within_all_limits,
      c.push.ensures.text_within_limit,
      pushed ∙ ap (λ (f : FeedView). record f { text = so_far.text ++ more }) i.5
          ∙ ap (λ (t : List ℕ). record { text = t; taken = 0; closed = false; stop = None }) (sym text),
    )
