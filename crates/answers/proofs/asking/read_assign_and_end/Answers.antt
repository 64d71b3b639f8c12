-- The names that are on, and the end of the text.
use Rattle.lemmas.proofs.Common.{Global, List, Vec, ℕ}
use Rattle.pattern.specs.Assign.{assign_section}
use Rattle.answers.proofs.AskedLemmas.{names_failed, names_leave_going, text_ends, text_goes_on}
use Rattle.answers.proofs.asking.read_assign_and_end.Goals as goal

on_view : Vec (List ℕ) Global → Unit {0} × List (List ℕ)
on_view names = assign_section names.items

pub returns-in-Err : goal.returns-in-Err
unfolding on_view
returns-in-Err c =
    names_failed on_view c.args.names.now c.args.feed.now c.read_assign.new.feed c.requires.feed_not_stopped
    c.in-Err.fault c.in-Err.ensures.reads

pub returns-in-Err-finish : goal.returns-in-Err-finish
unfolding on_view
returns-in-Err-finish c =
    let reads = c.in-Ok.ensures.reads in
    let going = names_leave_going on_view c.args.names.now c.args.feed.now c.read_assign.new.feed
    c.requires.feed_not_stopped
    c.in-Ok.on reads in
    text_goes_on on_view c.args.names.now c.args.feed.now c.read_assign.new.feed c.requires.feed_not_stopped c.in-Ok.on
    c.in-Err-finish.fault reads (c.in-Err-finish.ensures.more_is_left going) (c.in-Err-finish.ensures.fault going).0

pub returns-in-Ok-finish : goal.returns-in-Ok-finish
unfolding on_view
returns-in-Ok-finish c =
    let reads = c.in-Ok.ensures.reads in
    let going = names_leave_going on_view c.args.names.now c.args.feed.now c.read_assign.new.feed
    c.requires.feed_not_stopped
    c.in-Ok.on reads in
    let done = c.in-Ok-finish.ensures.ok going in
    text_ends on_view c.args.names.now c.args.feed.now c.read_assign.new.feed c.requires.feed_not_stopped c.in-Ok.on
    reads done.0
    done.1
