-- Lines in order: what comes after the last comes after all.
use Rattle.certificate_lines.proofs.Imports.{AreLinesInOrder, Bool, Box2, CertificateLine, Cut, IsBodyLine}
use Rattle.certificate_lines.proofs.Imports.{IsTotalOrder, Less, LineKey, List, Module, None, Option, Some, []}
use Rattle.certificate_lines.proofs.Imports.{and_parts, ap, arith, cell_cmp, cell_of, cell_total, common_steps, inl}
use Rattle.certificate_lines.proofs.Imports.{inr, is_cut_line, is_lt, key_of, key_or_first, last_body_line, last_of}
use Rattle.certificate_lines.proofs.Imports.{line_cmp, list_all, may_follow, may_precede, nat_cmp_total, ne_eqb}
use Rattle.certificate_lines.proofs.Imports.{on_total, or-false, or_cases, or_right, rank_of, refl, sort_number_of, sym}
use Rattle.certificate_lines.proofs.Imports.{then_total, true, ◌&&◌, ◌++◌, ◌∙◌, ◌∷◌, ◌≡◌, ◌⊎◌}
use Rattle.lemmas.proofs.Common.{nat_cmp, and-true}
use Rattle.certificate_lines.specs.BuilderView.{body_line_or_none}
use Rattle.certificate_lines.proofs.Growing.{last_pushed}
use Rattle.certificate_lines.proofs.LineRanks.{cut_rank}

line_total : IsTotalOrder line_cmp
unfolding line_cmp
line_total = then_total (on_total rank_of nat_cmp_total)
    (then_total (on_total sort_number_of nat_cmp_total) (on_total cell_of cell_total))

by_less : (i j : CertificateLine) → line_cmp i j ≡ Less → may_precede i j ≡ true
unfolding may_precede
by_less i j h = rw h refl

by_cuts : (i j : CertificateLine) → is_cut_line i ≡ true → is_cut_line j ≡ true → may_precede i j ≡ true
unfolding may_precede
by_cuts i j h k = or_right _ (is_cut_line i && is_cut_line j) (rw (h, k) refl)

-- lines of one kind but cuts, and of one number or time, are in order by their cells
pub cells_precede : (i j : CertificateLine) → rank_of i ≡ rank_of j → (rank_of i ≡ 1 → ⊥) →
    sort_number_of i ≡ sort_number_of j → is_lt (cell_cmp (cell_of i) (cell_of j)) ≡ may_precede i j
unfolding may_precede line_cmp
cells_precede i j ranks uncut numbers = grind (arith, common_steps, nat_cmp, cut_rank, ne_eqb, or-false)

-- how two lines may stand one before the other
precede_parts : (i j : CertificateLine) → may_precede i j ≡ true →
    (line_cmp i j ≡ Less) ⊎ ((is_cut_line i ≡ true) × (is_cut_line j ≡ true))
unfolding may_precede
precede_parts i j h = grind (arith, common_steps, or_cases, and_parts)

less_then_cut : (i j k : CertificateLine) → line_cmp i j ≡ Less → is_cut_line j ≡ true → is_cut_line k ≡ true →
    line_cmp i k ≡ Less
unfolding line_cmp rank_of sort_number_of cell_of is_cut_line
less_then_cut i (Cut m) (Cut n) less cj ck = less
less_then_cut i (Cut m) k less cj ck = absurd cc
less_then_cut i j k less cj ck = absurd cc

cut_then_less : (i j k : CertificateLine) → line_cmp j k ≡ Less → is_cut_line i ≡ true → is_cut_line j ≡ true →
    line_cmp i k ≡ Less
unfolding line_cmp rank_of sort_number_of cell_of is_cut_line
cut_then_less (Cut m) (Cut n) k less ci cj = less
cut_then_less (Cut m) j k less ci cj = absurd cc
cut_then_less i j k less ci cj = absurd cc

precede_trans : (i j k : CertificateLine) → may_precede i j ≡ true → may_precede j k ≡ true → may_precede i k ≡ true
precede_trans i j k h h' = elim (precede_parts i j h) [
  | inl less ↦ elim (precede_parts j k h') [
    | inl less' ↦ by_less i k (line_total.trans i j k less less')
    | inr cuts ↦ by_less i k (less_then_cut i j k less cuts.0 cuts.1)
  ]
  | inr cuts ↦ elim (precede_parts j k h') [
    | inl less ↦ by_less i k (cut_then_less i j k less cuts.0 cuts.1)
    | inr cuts' ↦ by_cuts i k cuts.0 cuts'.1
  ]
]

last_passes : (p : CertificateLine → Bool) (i : CertificateLine) (lines : List CertificateLine) (l : CertificateLine) →
    list_all p (i ∷ lines) ≡ true → last_of (i ∷ lines) ≡ Some l → p l ≡ true
unfolding last_of
last_passes p i [] l all last = grind (arith, common_steps, and_parts)
last_passes p i (j ∷ lines) l all last = last_passes p j lines l (and_parts (p i) (list_all p (j ∷ lines)) all).1 last

and_same : (a b : Bool) → (b ≡ true → a ≡ true) → (a && b) ≡ b
and_same a b h = grind arith

follows : (x : CertificateLine) (lines : List CertificateLine) (l i : CertificateLine) → AreLinesInOrder (x ∷ lines) →
    last_of (x ∷ lines) ≡ Some l → may_follow (x ∷ lines) i ≡ may_precede l i
unfolding AreLinesInOrder may_follow last_of
follows x [] l i order last = grind (arith, common_steps, and-true)
follows x (y ∷ lines) l i order last =
    let rest : may_follow (y ∷ lines) i ≡ may_precede l i = follows y lines l i order.1 last in
    let first : may_precede x l ≡ true = last_passes (may_precede x) y lines l order.0 last in
    ap (λ (b : Bool). may_precede x i && b) rest
    ∙ and_same (may_precede x i) (may_precede l i) (precede_trans x l i first)

pub follows_last : (lines : List CertificateLine) (l i : CertificateLine) → AreLinesInOrder lines →
    last_of lines ≡ Some l → may_precede l i ≡ may_follow lines i
unfolding last_of
follows_last [] l i order last = absurd cc
follows_last (x ∷ lines) l i order last = sym (follows x lines l i order last)

has_last : (x : CertificateLine) (lines : List CertificateLine) → last_of (x ∷ lines) ≡ None → ⊥
unfolding last_of
has_last x [] e = cc
has_last x (y ∷ lines) e = has_last y lines e

pub follows_none : (lines : List CertificateLine) (i : CertificateLine) → last_of lines ≡ None →
    true ≡ may_follow lines i
unfolding may_follow
follows_none [] i none = refl
follows_none (x ∷ lines) i none = absurd (has_last x lines none)

-- ---- the last line of all

-- a `module` line comes before every other line
module_first : (b : Box2) (i : CertificateLine) → IsBodyLine i → may_precede (Module b) i ≡ true
unfolding may_precede line_cmp rank_of sort_number_of cell_of is_cut_line
module_first b i h1 = grind (arith, common_steps)

pub follows_inner : (lines : List CertificateLine) (l i : CertificateLine) → IsBodyLine i → AreLinesInOrder lines →
    last_of lines ≡ body_line_or_none (Some l) → may_precede l i ≡ may_follow lines i
follows_inner lines l i h1 h2 h3 = grind (arith, common_steps, module_first, follows_none, follows_last)

-- whether a line may come after the others, by the key of the last
pub follows_key : (o : Option CertificateLine) (k : LineKey) (i : CertificateLine) (b : Bool) → IsBodyLine i →
    k ≡ key_or_first o → ((l : CertificateLine) → k ≡ key_of l → b ≡ may_precede l i) → (lines : List CertificateLine) →
    AreLinesInOrder lines → last_of lines ≡ body_line_or_none o → b ≡ may_follow lines i
unfolding rank_of sort_number_of cell_of
follows_key None k i b inner is may lines order last =
    let l : CertificateLine = Module (record { x = 0; y = 0; w = 0; h = 0 }) in
    may l is ∙ follows_inner lines l i inner order last
follows_key (Some l) k i b inner is may lines order last = may l is ∙ follows_inner lines l i inner order last

pub key_pushed : (entries : List CertificateLine) (i : CertificateLine) →
    key_of i ≡ key_or_first (last_of (entries ++ i ∷ []))
key_pushed entries i = ap key_or_first (sym (last_pushed entries i))

pub module_key : (entries : List CertificateLine) (b : Box2) →
    key_or_first None ≡ key_or_first (last_of (entries ++ Module b ∷ []))
unfolding rank_of sort_number_of cell_of
module_key entries b = key_pushed entries (Module b)

-- the last line after one more line
pub inner_pushed : (entries : List CertificateLine) (i : CertificateLine) → IsBodyLine i →
    last_body_line (entries ++ i ∷ []) ≡ Some i
inner_pushed entries i inner = grind (arith, common_steps, last_pushed)

pub module_pushed : (entries : List CertificateLine) (b : Box2) → last_body_line (entries ++ Module b ∷ []) ≡ None
module_pushed entries b = ap body_line_or_none (last_pushed entries (Module b))
