-- Lines that are sorted are in order
use Rattle.certificate.proofs.Imports.{AreDistinct, BorderLine, Equal, In, IsPermutation, Less, List, Ordering, Rises}
use Rattle.certificate.proofs.Imports.{all_in, ap, arith, border_line_cmp, common_steps, false, get_or}
use Rattle.certificate.proofs.Imports.{get_or_from_slice_get, in_ordered, is_lt, line_total, ordered_in, ordered_rises}
use Rattle.certificate.proofs.Imports.{ranks_by, rising_same, slice_get_within, sorted_border_lines, ◌+◌, ◌≡◌, ◌≢◌}
use Rattle.certificate.proofs.Imports.{Bool, slice_get-get_or, sym, true≢false, Circuit, None, StoredBorder, ap₂}
use Rattle.certificate.proofs.Imports.{border_line, length-map, map, ◌∙◌}
use Rattle.lemmas.proofs.Common.{is_eq, All-permutation, IsPermutation-sym, IsSortedBy, sorted_far, get_or-map}
use Rattle.std.proofs.lemmas.Cmp.{eq_by_cmp_equiv}
use Rattle.std.proofs.lemmas.Map.Keys.{IsDistinct-IsPermutation, IsDistinct-from_apart, apart_from_distinct}
use Rattle.certificate_lines.proofs.Pairs.{pairs_at}
use Rattle.certificate.proofs.FullModules.{in_all, pairs_by_place}

-- ---- lines in another order are distinct too

-- neither line comes before the other
abbrev same : BorderLine → BorderLine → Bool
same d e = is_eq (border_line_cmp d e)

not_eq : (o : Ordering) → o ≢ Equal → is_eq o ≡ false
not_eq o h1 = grind (arith, common_steps)

apart : (o : Ordering) → is_eq o ≡ false → o ≢ Equal
apart o h e = true≢false (sym (ap is_eq e) ∙ h)

kept_distinct : (xs ys : List BorderLine) → IsPermutation xs ys → AreDistinct xs → AreDistinct ys
kept_distinct xs ys p d =
    let before = IsDistinct-from_apart same xs (λ i j k lt within.
    not_eq _ (pairs_at (λ d e. border_line_cmp d e ≢ Equal) xs d i j (get_or xs i k) (get_or xs j k) lt
    (slice_get-get_or xs i k (omega (arith, lt, within))) (slice_get-get_or xs j k within))) in
    let after = IsDistinct-IsPermutation same (eq_by_cmp_equiv line_total).symm xs ys p before in
    pairs_by_place (λ d e. border_line_cmp d e ≢ Equal) ys (λ i j a b lt ea eb.
    apart _ (ap₂ same (sym (get_or_from_slice_get ys i a a ea)) (sym (get_or_from_slice_get ys j b a eb))
    ∙ apart_from_distinct same ys i j a after lt (slice_get_within ys j b eb)))

kept_in : (xs ys : List BorderLine) → IsPermutation xs ys → (x : BorderLine) → In x ys → In x xs
kept_in xs ys p x i = all_in (λ y. In y xs) ys
    (All-permutation (λ y. In y xs) xs ys p (in_all (λ y. In y xs) xs (λ y j. j))) x i

less_of : (a b : BorderLine) → is_lt (border_line_cmp b a) ≡ false → border_line_cmp a b ≢ Equal →
    border_line_cmp a b ≡ Less
less_of a b h n = grind (arith, common_steps, line_total)

sorted_rises : (ys : List BorderLine) → IsSortedBy (λ a b. is_lt (border_line_cmp a b)) ys → AreDistinct ys → Rises ys
sorted_rises ys up d = pairs_by_place (λ a b. border_line_cmp a b ≡ Less) ys (λ i j a b lt ea eb.
    let la = slice_get_within ys i a ea in let lb = slice_get_within ys j b eb in
    let far = sorted_far (λ a b. is_lt (border_line_cmp a b)) (ranks_by line_total (λ e. e)) ys up i j a
    (omega (arith, lt)) lb in
    let ga : get_or ys i a ≡ a = get_or_from_slice_get ys i a a ea in
    let gb : get_or ys j a ≡ b = get_or_from_slice_get ys j b a eb in
    grind (arith, common_steps, less_of, pairs_at))

pub sorted_lines : (xs ys : List BorderLine) → AreDistinct xs → IsPermutation xs ys →
    IsSortedBy (λ a b. is_lt (border_line_cmp a b)) ys → ys ≡ sorted_border_lines xs
sorted_lines xs ys d p up =
    rising_same ys (sorted_border_lines xs) (sorted_rises ys up (kept_distinct xs ys p d)) (ordered_rises xs d)
    (λ x i. ordered_in x xs (kept_in xs ys p x i))
    (λ x i. kept_in ys xs (IsPermutation-sym xs ys p) x (in_ordered x xs i))

-- lines that are kept, by their names
pub sorted_by_lines : (c : Circuit) (bs : List StoredBorder) →
    IsSortedBy (λ a b. is_lt (border_line_cmp (border_line c a) (border_line c b))) bs →
    IsSortedBy (λ a b. is_lt (border_line_cmp a b)) (map (border_line c) bs)
sorted_by_lines c bs h k d le lt =
    let long = length-map bs (border_line c) in
    let other : StoredBorder = record { time = None; column = 0; row = 0; wire = None } in
    ap₂ (λ a b. is_lt (border_line_cmp a b))
    (get_or-map (border_line c) bs (k + 1) other d (omega (arith, long, lt)))
    (get_or-map (border_line c) bs k other d (omega (arith, long, lt)))
    ∙ h k other le (omega (arith, long, lt))
