use Rattle.certificate_lines.proofs.Imports.{Some, ap, cell, pos, rules, sym, to_z, w32, words_of, ◌>>=◌, ◌∙◌, ◌≡◌}
use Rattle.certificate_lines.proofs.BorderText.{border_is, signal_is}
use Rattle.certificate_lines.proofs.form.border_after_keyword.Goals as goal

pub returns-in_err-signal : goal.returns-in_err-signal
returns-in_err-signal c k = rw c.from_residual-in_err-signal.ensures
    (ap (λ o. o >>= λ s. Some (record { time = c.in_ok-time.time; cell = cell c.in_ok-x.x c.in_ok-y.y; signal = s }))
    (c.in_err-signal.ensures ∙ sym (signal_is c.in_ok-y.line.now))
    ∙ border_is k (words_of c.args.line.now) c.in_ok-time.time (words_of c.in_ok-time.line.now)
    c.in_ok-x.x (words_of c.in_ok-x.line.now) c.in_ok-y.y (words_of c.in_ok-y.line.now)
    (sym c.in_ok-time.ensures) (sym c.in_ok-x.ensures.number) (sym c.in_ok-y.ensures.number))

pub returns : goal.returns
returns c k =
    let x : to_z w32 c.in_ok-x.x ≡ pos c.in_ok-x.x = search rules in
    let y : to_z w32 c.in_ok-y.y ≡ pos c.in_ok-y.y = search rules in
    rw (x, y) (ap (λ o. o >>= λ s.
    Some (record { time = c.in_ok-time.time; cell = cell c.in_ok-x.x c.in_ok-y.y; signal = s }))
    (c.in_ok-signal.ensures ∙ sym (signal_is c.in_ok-y.line.now))
    ∙ border_is k (words_of c.args.line.now) c.in_ok-time.time (words_of c.in_ok-time.line.now)
    c.in_ok-x.x (words_of c.in_ok-x.line.now) c.in_ok-y.y (words_of c.in_ok-y.line.now)
    (sym c.in_ok-time.ensures) (sym c.in_ok-x.ensures.number) (sym c.in_ok-y.ensures.number))
