-- The rule of replies, and the replay of a history by it
use Rattle.std.specs.Prelude.{◌≡◌, ℕ, List, [], ◌∷◌, ◌++◌, Bool, true, false, not, if◌then◌else◌, nat_eq, nat_lt, ⊤}
use Rattle.std.specs.Cmp.Lexicographic.{pointwise}
use Rattle.std.specs.List.{list_any}
use Rattle.core_book.specs.declared.log_entry.LogEntry.{LogEntry}
use Rattle.core_book.specs.declared.log_entry.LogEntry.TheVariants.{Filed, Closing}
use Rattle.core_book.specs.declared.reply.Mismatch.TheVariants.{Digest, Number, Content}
use Rattle.core_book.specs.declared.reply.Reply.{Reply}
use Rattle.core_book.specs.declared.reply.Reply.TheVariants.{Closed, Stranger, Double, Accepted}

-- The reply of a book with this digest and as many jobs, which is closed or not, to a finding of another digest and
-- number: the first that applies. `same`: the finding's job is the book's of that number. `taken`: one is held for that
-- number.
abbrev pub reply_by_rule : List ℕ → ℕ → Bool → Bool → List ℕ → ℕ → Bool → Reply
reply_by_rule own count closed taken digest number same =
    if closed then Closed
    else if not (pointwise nat_eq digest own) then Stranger Digest
    else if not (nat_lt number count) then Stranger Number
    else if not same then Stranger Content
    else if taken then Double number
    else Accepted

-- what a history makes of a book: the numbers that were accepted, in their order, and whether the book is closed
pub record Replayed : Type 0 where
  pub accepted : List ℕ
  pub closed : Bool

-- before the first entry
abbrev pub empty_replayed : Replayed
empty_replayed = record { accepted = []; closed = false }

-- whether the number is one of these
abbrev pub has_number : List ℕ → ℕ → Bool
has_number ks k = list_any (λ x. nat_eq x k) ks

-- the numbers accepted after a reply to a finding of this number
abbrev pub accepted_after : List ℕ → ℕ → Reply → List ℕ
accepted_after ks k Accepted = ks ++ k ∷ []
accepted_after ks k _ = ks

-- after one entry
abbrev pub after_entry : Replayed → LogEntry → Replayed
after_entry p (Filed f) = record p { accepted = accepted_after p.accepted f.number f.reply }
after_entry p Closing = record p { closed = true }

-- after all of these entries
abbrev pub replay_from : Replayed → List LogEntry → Replayed
replay_from p [] = p
replay_from p (e ∷ es) = replay_from (after_entry p e) es

-- after a whole history
abbrev pub replay : List LogEntry → Replayed
replay history = replay_from empty_replayed history

-- whether a history has a closing entry
abbrev pub has_closing : List LogEntry → Bool
has_closing [] = false
has_closing (Filed f ∷ es) = has_closing es
has_closing (Closing ∷ es) = true

-- the stored reply is the one that the rule gives there
abbrev pub IsReplyByRule : List ℕ → ℕ → Replayed → LogEntry → Type 0
IsReplyByRule own count p (Filed f) =
    f.reply ≡ reply_by_rule own count p.closed (has_number p.accepted f.number) f.digest f.number f.same
IsReplyByRule own count p Closing = ⊤

-- each stored reply is the one that the rule gives after the entries before it
abbrev pub AreRepliesByRule : List ℕ → ℕ → Replayed → List LogEntry → Type 0
AreRepliesByRule own count p [] = ⊤
AreRepliesByRule own count p (e ∷ es) = IsReplyByRule own count p e × AreRepliesByRule own count (after_entry p e) es
