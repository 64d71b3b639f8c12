-- If a parse ends without an error, a property of the arguments that each successful step keeps holds at the end.
use Rattle.lemmas.proofs.Common.{[], ◌∷◌, ◌≡◌, Bool, List, None, Option, Some, arith, cond, drop, encode_utf8, false}
use Rattle.lemmas.proofs.Common.{find, fold, is_some, length, refl, slice_get, suc, true, zero, ℕ, chars, common_steps}
use Rattle.lemmas.proofs.Common.{option_map_or}
use Rattle.clap.specs.Lexer.{short_of}
use Rattle.clap.specs.Walk.{Held, Names, Outcome, Row, Rule, Step, Text, Waiting, Walk, after_flag, after_step}
use Rattle.clap.specs.Walk.{arg_by_short, attached_value, bundle_met, bundle_step, done, flag_met, idle, long_met}
use Rattle.clap.specs.Walk.{long_or_other, next, option, option_met, plain, plain_word, positional, positional_held}
use Rattle.clap.specs.Walk.{reacted, refused, settled, short_met, short_or_plain, subcommand, subcommand_met}
use Rattle.clap.specs.Walk.{subcommand_or_other, takes_values, trailing, used, value, waits, walk, walked, word_met}
use Rattle.clap.specs.Simple.{Shape}
use Rattle.clap.specs.declared.error.kind.ErrorKind.TheVariants as kind
use Rattle.clap.specs.Kinds.{Kinds, or_else}
use Rattle.clap.specs.Faults.{bundle_fault, bundle_step_fault, flag_word_fault, flags_fault, level_fault, long_fault}
use Rattle.clap.specs.Faults.{option_fault, other_fault, positional_fault, react_fault, settle_fault, short_fault}
use Rattle.clap.specs.Faults.{step_fault, turn_fault, use_fault, walk_fault, word_fault}

-- two steps meet no fault: neither does
pub both_none : (a b : Kinds) → or_else a b ≡ [] → (a ≡ []) × (b ≡ [])
both_none [] b e = (refl, e)
both_none (k ∷ ks) b e = cc

module _ (s : Shape) (Good : List Row → Type 0)
    (after_use : (p : Rule → Bool) (a : Rule) (values : List Text) (rows : List Row) → find p s.rules ≡ Some a →
    use_fault s.args_override_self a values rows ≡ []
    → Good rows → Good (used a values rows)) where
  -- ---- one use of an argument

  after_settling : (h : Held) → settle_fault s.rules s.args_override_self h ≡ [] → Good h.rows →
      Good (settled s.rules h).rows
  after_settling h none good = grind (arith, common_steps)

  after_reaction : (p : Rule → Bool) (a : Rule) (values : List Text) (h : Held) → find p s.rules ≡ Some a →
      react_fault s.rules s.args_override_self a values h ≡ [] → Good h.rows → Good (reacted s.rules a values h).rows
  after_reaction p a values h found none good = grind (arith, common_steps, both_none, after_settling)

  after_option : (p : Rule → Bool) (a : Rule) (v : Option Text) (h : Held) → find p s.rules ≡ Some a →
      option_fault s.rules s.args_override_self a v h ≡ [] → Good h.rows → Good (option_met s.rules a v h).0.rows
  after_option p a (Some v) h found none good = after_reaction p a (v ∷ []) h found none good
  after_option p a None h found none good = after_settling h none good

  after_long : (p : Rule → Bool) (o : Option Rule) (v : Option Text) (h : Held) → find p s.rules ≡ o →
      long_fault s.rules s.args_override_self o v h ≡ [] → Good h.rows → Good (long_met s.rules o v h).0.rows
  after_long p None v h found none good = cc
  after_long p (Some a) v h found none good = go (takes_values a) v none
    where
      go : (b : Bool) (v : Option Text)
          → cond b (option_fault s.rules s.args_override_self a v h)
          (cond (is_some v) (kind.TooManyValues ∷ []) (react_fault s.rules s.args_override_self a [] h)) ≡ []
          → Good (cond b (option_met s.rules a v h) (flag_met s.rules a v h)).0.rows
      go true v none = after_option p a v h found none good
      go false (Some v) none = cc
      go false None none = after_reaction p a [] h found none good

  -- ---- a bundle of flags

  after_short : (p : Rule → Bool) (o : Option Rule) (rest : Text) (h : Held) (onward : Held → Held × Outcome)
      (below : Held → Kinds) → find p s.rules ≡ o → ((g : Held) → below g ≡ [] → Good g.rows → Good (onward g).0.rows) →
      short_fault s.rules s.args_override_self o rest h below ≡ [] → Good h.rows →
      Good (short_met s.rules o rest h onward).0.rows
  after_short p None rest h onward below found more none good = cc
  after_short p (Some a) rest h onward below found more none good = go (takes_values a) none
    where
      go : (b : Bool) → cond b (option_fault s.rules s.args_override_self a (attached_value rest) h)
          (or_else (react_fault s.rules s.args_override_self a [] h) (below (reacted s.rules a [] h))) ≡ [] →
          Good (cond b (option_met s.rules a (attached_value rest) h) (onward (reacted s.rules a [] h))).0.rows
      go true none = after_option p a (attached_value rest) h found none good
      go false none =
          let steps = both_none (react_fault s.rules s.args_override_self a [] h) _ none in
          more (reacted s.rules a [] h) steps.1 (after_reaction p a [] h found steps.0 good)

  after_flags : (k : ℕ) (flags : Text) (skip : ℕ) (so_far : Outcome) (h : Held) →
      flags_fault s.rules s.args_override_self k flags skip h ≡ []
      → Good h.rows → Good (bundle_met s.rules k flags skip so_far h).0.rows
  unfolding flags_fault bundle_met
  after_flags zero flags skip so_far h none good = good
  after_flags (suc k) flags skip so_far h none good =
      go (slice_get (chars flags) 0) skip none
      (after_flags k)
    where
      go : (o : Option ℕ) (skip : ℕ) →
          bundle_step_fault s.rules s.args_override_self o flags skip h (flags_fault s.rules s.args_override_self k)
          ≡ [] → ((rest : Text) (skip : ℕ) (so_far : Outcome) (g : Held) →
          flags_fault s.rules s.args_override_self k rest skip g ≡ [] → Good g.rows →
          Good (bundle_met s.rules k rest skip so_far g).0.rows) →
          Good (bundle_step s.rules o flags skip so_far h (bundle_met s.rules k)).0.rows
      go None skip none onward = good
      go (Some x) zero none onward =
          let rest = drop (length (encode_utf8 x)) flags in
          after_short _ (arg_by_short s.rules x) rest h (bundle_met s.rules k rest 0 done)
          (flags_fault s.rules s.args_override_self k rest 0) refl
          (onward rest 0 done) none good
      go (Some x) (suc skip) none onward = onward (drop (length (encode_utf8 x)) flags) skip so_far h none good

  -- ---- a word

  after_plain : (waiting : Waiting) (word : Text) (h : Held) → Good h.rows →
      Good (plain_word s.rules waiting word h).0.rows
  after_plain idle word h good = good
  after_plain positional word h good = good
  after_plain (option id) word h good = grind (arith, common_steps)

  after_outcome : (waiting : Waiting) (word : Text) (h : Held) (outcome : Outcome) → Good h.rows →
      Good (after_flag s.rules waiting word h outcome).0.rows
  after_outcome waiting word h done good = good
  after_outcome waiting word h (waits id) good = good
  after_outcome waiting word h plain good = after_plain waiting word h good
  after_outcome waiting word h refused good = after_plain waiting word h good

  after_short_word : (waiting : Waiting) (word : Text) (o : Option Text) (h : Held) →
      option_map_or (λ flags. bundle_fault s.rules s.args_override_self flags h) o [] ≡ []
      → Good h.rows → Good (short_or_plain s.rules waiting word o h).0.rows
  after_short_word waiting word None h none good = after_plain waiting word h good
  after_short_word waiting word (Some flags) h none good = grind (arith, common_steps, after_outcome, after_flags)

  after_flag_word : (waiting : Waiting) (word : Text) (o : Option (Text × Option Text)) (h : Held) →
      flag_word_fault s.rules s.args_override_self o word h ≡ []
      → Good h.rows → Good (long_or_other s.rules waiting word o h).0.rows
  after_flag_word waiting word None h none good = after_short_word waiting word (short_of word) h none good
  after_flag_word waiting word (Some p) h none good = grind (arith, common_steps, after_outcome, after_long)

  after_other : (o : Option Text) (waiting : Waiting) (position : ℕ) (word : Text) (h : Held) →
      other_fault s o word h ≡ [] → Good h.rows → Good (subcommand_or_other s.rules o waiting position word h).0.rows
  after_other (Some name) waiting position word h none good = good
  after_other None waiting position word h none good = grind (arith, common_steps, after_flag_word)

  after_word : (names : Names) (is_trailing : Bool) (waiting : Waiting) (position : ℕ) (word : Text) (h : Held) →
      word_fault s names is_trailing waiting word h ≡ []
      → Good h.rows → Good (word_met s.rules names is_trailing waiting position word h).0.rows
  after_word names true waiting position word h none good = good
  after_word names false waiting position word h none good =
      after_other (subcommand_met names waiting word) waiting position word h none good

  -- ---- the walk

  after_positional : (a : Rule) (word : Text) (h : Held) → positional_fault s.rules s.args_override_self a h ≡ [] →
      Good h.rows → Good (positional_held s.rules a word h).rows
  after_positional a word h none good = grind (arith, common_steps, after_settling)

  after_turn_step : (w : Walk) (word : Text) (h : Held) (step : Step) → step_fault s w.position h step ≡ [] →
      Good h.rows → Good (after_step s.rules word w h step).held.rows
  after_turn_step w word h (next waiting) none good = good
  after_turn_step w word h (trailing position) none good = good
  after_turn_step w word h (subcommand name) none good = good
  after_turn_step w word h value none good = grind (arith, common_steps, after_positional)

  after_turn : (names : Names) (w : Walk) (word : Text) → turn_fault s names w word ≡ [] → Good w.held.rows →
      Good (walked s.rules names w word).held.rows
  unfolding walked
  after_turn names w word none good = grind (arith, common_steps, both_none, after_turn_step, after_word)

  after_walk : (names : Names) (w : Walk) (words : List Text) → walk_fault s names w words ≡ [] → Good w.held.rows →
      Good (fold (walked s.rules names) w words).held.rows
  unfolding walk_fault
  after_walk names w [] none good = good
  after_walk names w (word ∷ rest) none good =
      let steps = both_none (turn_fault s names w word) _ none in
      after_walk names (walked s.rules names w word) rest steps.1 (after_turn names w word steps.0 good)

  -- the rows at the end of the words, before the defaults
  pub after_level : (names : Names) (h : Held) (words : List Text) (has_subcommand : Bool) (below : Kinds) →
      level_fault s names h words has_subcommand below ≡ []
      → Good h.rows → Good (settled s.rules (walk s.rules names h words).held).rows
  after_level names h words has_subcommand below none good =
      grind (arith, common_steps, both_none, after_settling, after_walk)
