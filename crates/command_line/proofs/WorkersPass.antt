-- The text of `--workers` is a whole number of 1 to 64 if clap finds no fault.
use Rattle.lemmas.proofs.Common.{[], ◌++◌, ◌∙◌, ◌∷◌, ◌≡◌, Bool, List, None, Option, Some, ap, codes, cond, false, find}
use Rattle.lemmas.proofs.Common.{length, option_and_then, option_map, refl, slice_get, subst, sym, true, true≢false}
use Rattle.lemmas.proofs.Common.{bytes_eq, bytes_eq-Decides, option_map_or, ⊤}
use Rattle.clap.specs.ValueTests.{accepts}
use Rattle.clap.specs.Values.{read_as, refused_kind}
use Rattle.clap.specs.Walk.{Row, Rule, Text, at_row, has_row, more_values, nothing_held, row_text, rows_after, settled}
use Rattle.clap.specs.Walk.{stop_after, answers_to, used, values_or_missing, walk, walk_from, with_default, with_values}
use Rattle.clap.specs.Walk.{without}
use Rattle.clap.specs.Simple.{Shape, argument_words, built, built_leaf, entered, filled, help_rule, inherited, label_of}
use Rattle.clap.specs.Simple.{marked_built, names_of, rows_at, with_leaf_noted}
use Rattle.clap.specs.Kinds.{range_kinds, value_kinds, values_kinds}
use Rattle.clap.specs.Faults.{entered_fault, level_fault, repeat_fault, use_fault, walk_fault}
use Rattle.clap.specs.Words.{IsUnsignedIn, fault_of, one_of, subcommand_of}
use Rattle.clap.specs.declared.builder.value_parser.Reading.TheVariants.{AsWritten}
use Rattle.clap.specs.declared.builder.value_parser.ValueParser.TheVariants as vp
use Rattle.clap.specs.declared.parser.matches.ValueSource.{ValueSource}
use Rattle.clap.specs.declared.parser.matches.ValueSource.TheVariants.{CommandLine, DefaultValue}
use Rattle.clap.proofs.ValueTestLemmas.{accepts-Accepts}
use Rattle.command_line.specs.CommandLine.{bbmcheck_app, check_app, workers_of, workers_rule, workers_text}
use Rattle.command_line.proofs.Faultless.{after_level, both_none}

-- ---- searches

-- each element of the list has the property
abbrev Each : {X : Type 0} → (X → Type 0) → List X → Type 0
Each P [] = ⊤
Each P (x ∷ xs) = P x × Each P xs

each_in_both : {X : Type 0} (P : X → Type 0) (xs ys : List X) → Each P xs → Each P ys → Each P (xs ++ ys)
each_in_both P [] ys here there = there
each_in_both P (x ∷ xs) ys here there = (here.0, each_in_both P xs ys here.1 there)

-- what a search finds has the property, and passes the search's test
found_has : {X : Type 0} (P : X → Type 0) (test : X → Bool) (xs : List X) (x : X) → Each P xs → find test xs ≡ Some x →
    P x × (test x ≡ true)
found_has P test [] x each found = cc
found_has P test (y ∷ ys) x each found = go (test y) refl found (found_has P test ys x each.1)
  where
    go : (b : Bool) → test y ≡ b → cond b (Some y) (find test ys) ≡ Some x →
        (find test ys ≡ Some x → P x × (test x ≡ true)) → P x × (test x ≡ true)
    go true passes found later =
        let same : y ≡ x = cc in
        (subst P same each.0, ap test (sym same) ∙ passes)
    go false fails found later = later found

-- ---- rows

-- each text passes the option's parser
abbrev AllPass : List Text → Type 0
AllPass texts = values_kinds false (vp.Unsigned 1 64) texts ≡ []

-- a row of the option has only texts that pass, and is read as it is written
abbrev Passes : Row → Type 0
Passes r = r.id ≡ codes "workers" → (r.reading ≡ AsWritten) × AllPass r.values

all_in_both : (xs ys : List Text) → AllPass xs → AllPass ys → AllPass (xs ++ ys)
all_in_both [] ys here there = there
all_in_both (x ∷ xs) ys here there =
    let steps = both_none (value_kinds false (vp.Unsigned 1 64) x) _ here in
    rw steps.0 (all_in_both xs ys steps.1 there)

change_keeps : (id : Text) (change : Row → List Row) (missing : List Row) →
    ((r : Row) → Passes r → Each Passes (change r)) → Each Passes missing
    → (rows : List Row) → Each Passes rows → Each Passes (at_row id change missing rows)
change_keeps id change missing changed new [] each = new
change_keeps id change missing changed new (r ∷ rs) each =
    go (bytes_eq r.id id) (change_keeps id change missing changed new rs each.1)
  where
    go : (b : Bool) → Each Passes (at_row id change missing rs) →
        Each Passes (cond b (change r ++ rs) (r ∷ at_row id change missing rs))
    go true rest = each_in_both Passes (change r) rs (changed r each.0) each.1
    go false rest = (each.0, rest)

values_keep : (source : ValueSource) (values : List Text) (rows : List Row) → AllPass values → Each Passes rows →
    Each Passes (with_values (codes "workers") AsWritten source values rows)
values_keep source values rows pass each =
    change_keeps (codes "workers") (more_values source values) _
    (λ r passes. (λ same. ((passes same).0, all_in_both r.values values (passes same).1 pass), tt))
    (λ same. (refl, pass), tt) rows each

-- the option and the help flag, as they stand once the command is built
abbrev option : Rule
option = filled workers_rule

abbrev help : Rule
help = filled help_rule

-- the command `check`, built
abbrev check : Shape
check = built_leaf (inherited (with_leaf_noted (marked_built bbmcheck_app.top)) check_app.top)

use_keeps : (values : List Text) (rows : List Row) → use_fault false option values rows ≡ [] → Each Passes rows →
    Each Passes (used option values rows)
use_keeps values rows none each =
    let ranged = both_none (range_kinds 1 1 (length values)) _ none in
    let once = both_none (repeat_fault false option.id rows) _ ranged.1 in
    values_keep CommandLine (values_or_missing option values) (without option.id rows) once.1
    (change_keeps option.id (λ _. []) [] (λ r passes. tt) tt rows each)

default_keeps : (rows : List Row) → Each Passes rows → Each Passes (with_default rows option)
default_keeps rows each = go (has_row option.id rows)
  where
    go : (b : Bool) → Each Passes
        (cond b rows (with_values (codes "workers") AsWritten DefaultValue (codes "1" ∷ []) rows))
    go true = each
    go false = values_keep DefaultValue (codes "1" ∷ []) rows refl each

no_default : (rows : List Row) → with_default rows help ≡ rows
no_default rows = go (has_row help.id rows)
  where
    go : (b : Bool) → cond b rows rows ≡ rows
    go true = refl
    go false = refl

rows_pass : (words : List Text) → level_fault check [] nothing_held words false [] ≡ [] →
    Each Passes (rows_after check.rules [] words)
rows_pass words none =
    let rows = (settled check.rules (walk check.rules [] nothing_held words).held).rows in
    let each = after_level check (Each Passes) (λ test a values rows found none each.
    (found_has (λ (a : Rule). (values : List Text) (rows : List Row) → use_fault false a values rows ≡ [] →
    Each Passes rows → Each Passes (used a values rows)) test check.rules a
    (use_keeps, (λ values rows none each. each, tt)) found).0 values rows none each) [] nothing_held words false [] none
    tt in
    rw no_default (default_keeps rows each)

-- ---- the text

-- the first text of the option's row passes
text_passes : (rows : List Row) (t : Text) → Each Passes rows → one_of (codes "workers") rows ≡ Some t →
    IsUnsignedIn 1 64 t
text_passes rows t each is = go (find (λ r. bytes_eq r.id (codes "workers")) rows) refl is
  where
    accepted : (b : Bool) → accepts false (vp.Unsigned 1 64) t ≡ b →
        cond b [] (refused_kind (vp.Unsigned 1 64) ∷ []) ≡ [] → IsUnsignedIn 1 64 t
    accepted true passes none = accepts-Accepts false (vp.Unsigned 1 64) t passes
    accepted false fails none = cc

    first : (values : List Text) → AllPass values → option_map (read_as AsWritten) (slice_get values 0) ≡ Some t →
        IsUnsignedIn 1 64 t
    first [] pass is = cc
    first (v ∷ vs) pass is =
        let same : v ≡ t = cc in
        let none = (both_none (value_kinds false (vp.Unsigned 1 64) v) _ pass).0 in
        accepted (accepts false (vp.Unsigned 1 64) t) refl
        (subst (λ w. value_kinds false (vp.Unsigned 1 64) w ≡ []) same none)

    go : (o : Option Row) → find (λ r. bytes_eq r.id (codes "workers")) rows ≡ o → option_and_then row_text o ≡ Some t →
        IsUnsignedIn 1 64 t
    go None found is = cc
    go (Some r) found is =
        let has = found_has Passes (λ r. bytes_eq r.id (codes "workers")) rows r each found in
        let passes = has.0 ((bytes_eq-Decides r.id (codes "workers")).0 has.1) in
        first r.values passes.1 (ap (λ how. option_map (read_as how) (slice_get r.values 0)) (sym passes.0) ∙ is)

-- ---- the commands

-- the command is no `check`, or its rows have only texts that pass
abbrev PassesIfCheck : Shape → Type 0
PassesIfCheck s = s.name ≡ codes "check" → (words : List Text) → level_fault s [] nothing_held words false [] ≡ [] →
    Each Passes (rows_after s.rules [] words)

differ : (name other : Text) → bytes_eq name other ≡ false → name ≡ other → ⊥
differ name other fails same = true≢false (sym ((bytes_eq-Decides name other).1 same) ∙ fails)

commands_pass : Each PassesIfCheck (built bbmcheck_app).subs
commands_pass = (
  λ same. rows_pass,
  (
    λ same. absurd (differ _ _ refl same),
    (
      λ same. absurd (differ _ _ refl same),
      (
        λ same. absurd (differ _ _ refl same),
        (λ same. absurd (differ _ _ refl same), (λ same. absurd (differ _ _ refl same), tt)),
      ),
    ),
  ),
)

entered_passes : (stop : Option (Text × List Text)) (r : Text × List Row) → entered (built bbmcheck_app) stop ≡ Some r →
    entered_fault (built bbmcheck_app) stop ≡ []
    → r.0 ≡ codes "check" → Each Passes r.1
entered_passes None r is none same = cc
entered_passes (Some p) r is none same =
    go (find (λ s. answers_to p.0 (label_of s)) (built bbmcheck_app).subs) refl is none
  where
    go : (o : Option Shape) → find (λ s. answers_to p.0 (label_of s)) (built bbmcheck_app).subs ≡ o →
        option_map (λ s. rows_at s p.1) o ≡ Some r
        → option_map_or (λ s. level_fault s [] nothing_held p.1 false []) o [] ≡ [] → Each Passes r.1
    go None found is none = cc
    go (Some s) found is none =
        let rows : rows_at s p.1 ≡ r = cc in
        let pass = (found_has PassesIfCheck (λ s. answers_to p.0 (label_of s))
        (built bbmcheck_app).subs s commands_pass found).0 in
        subst (λ rs. Each Passes rs) (ap (λ (q : Text × List Row). q.1) rows)
        (pass (ap (λ (q : Text × List Row). q.0) rows ∙ same) p.1 none)

-- where the walk over the words meets a command, and the words after it
abbrev met_in : List Text → Option (Text × List Text)
met_in words = stop_after (built bbmcheck_app).top.rules (names_of (built bbmcheck_app))
    (argument_words bbmcheck_app words)

pub workers_pass : (words : List Text) (t : Text) → fault_of bbmcheck_app words ≡ [] → workers_text words ≡ Some t →
    IsUnsignedIn 1 64 t
workers_pass words t none is =
    let later = both_none (walk_fault (built bbmcheck_app).top (names_of (built bbmcheck_app)) (walk_from nothing_held)
    (argument_words bbmcheck_app words)) _ none in
    go (subcommand_of bbmcheck_app words) refl is
    (both_none (entered_fault (built bbmcheck_app) (met_in words)) _ later.1).0
  where
    named : (b : Bool) (r : Text × List Row) → bytes_eq r.0 (codes "check") ≡ b →
        cond b (one_of (codes "workers") r.1) None ≡ Some t
        → (r.0 ≡ codes "check" → Each Passes r.1) → IsUnsignedIn 1 64 t
    named true r same is each = text_passes r.1 t (each ((bytes_eq-Decides r.0 (codes "check")).0 same)) is
    named false r other is each = cc

    go : (o : Option (Text × List Row)) → subcommand_of bbmcheck_app words ≡ o → option_and_then workers_of o ≡ Some t →
        entered_fault (built bbmcheck_app) (met_in words) ≡ [] → IsUnsignedIn 1 64 t
    go None found is none = cc
    go (Some r) found is none = named (bytes_eq r.0 (codes "check")) r refl is
        (λ same. entered_passes (met_in words) r found none same)
