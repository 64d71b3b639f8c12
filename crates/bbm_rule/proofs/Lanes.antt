-- Vectors of four words, and the words of four slices.
use Rattle.bbm_rule.proofs.Imports.{List, TurnsCornerWordsBetween, arith, bit_and, bit_or, bit_xor, common_steps}
use Rattle.bbm_rule.proofs.Imports.{get_or, length, refl, ℕ, ◌+◌, ◌-◌, ◌<◌, ◌≡◌, ◌≤◌}
use Rattle.lemmas.proofs.Common.{get_or-chunk, get_or-put_chunk_above, get_or-put_chunk_at, get_or-put_chunk_below}
use Rattle.lemmas.proofs.Common.{get_or-zip2, length-zip2}
use Rattle.std.specs.Simd.Lanes.{zip2, chunk, put_chunk}
use Rattle.bbm_rule.specs.Words.{AreCornerWordsTurnedAt}
use Rattle.bbm_rule.proofs.Turning.{words_turned}

-- v has four lanes, and lane k is f k
pub record HasLanes (v : List ℕ) (f : ℕ → ℕ) : Type 0 where
  pub long : length v ≡ 4
  pub each : (k : ℕ) → k < 4 → get_or v k 0 ≡ f k

own_lanes : (v : List ℕ) → length v ≡ 4 → HasLanes v (λ k. get_or v k 0)
own_lanes v long = record { long = long; each = λ k l. refl }

zip_lanes : (op : ℕ → ℕ → ℕ) (v w : List ℕ) (f g : ℕ → ℕ) → HasLanes v f → HasLanes w g →
    HasLanes (zip2 op v w) (λ k. op (f k) (g k))
zip_lanes op v w f g hv hw = grind (arith, common_steps, length-zip2, get_or-zip2)

abbrev xor_l : List ℕ → List ℕ → List ℕ
xor_l = zip2 bit_xor

abbrev and_l : List ℕ → List ℕ → List ℕ
and_l = zip2 bit_and

abbrev or_l : List ℕ → List ℕ → List ℕ
or_l = zip2 bit_or

abbrev pub changed_l : List ℕ → List ℕ → List ℕ → List ℕ → List ℕ
changed_l ul ur ll lr = xor_l (or_l ul lr) (or_l ur ll)

abbrev pub flip_main_l : List ℕ → List ℕ → List ℕ → List ℕ → List ℕ
flip_main_l ul ur ll lr = xor_l (changed_l ul ur ll lr) (and_l (changed_l ul ur ll lr) (xor_l ur ll))

abbrev pub flip_anti_l : List ℕ → List ℕ → List ℕ → List ℕ → List ℕ
flip_anti_l ul ur ll lr = xor_l (changed_l ul ur ll lr) (and_l (changed_l ul ur ll lr) (xor_l ul lr))

pub vectors_turned : (ul ur ll lr : List ℕ) → length ul ≡ 4 → length ur ≡ 4 → length ll ≡ 4 → length lr ≡ 4 → (k : ℕ) →
    k < 4 → AreCornerWordsTurnedAt k ul ur ll lr (xor_l ul (flip_main_l ul ur ll lr))
    (xor_l ur (flip_anti_l ul ur ll lr)) (xor_l ll (flip_anti_l ul ur ll lr)) (xor_l lr (flip_main_l ul ur ll lr))
vectors_turned ul ur ll lr lul lur ldl ldr k l =
    let hul = own_lanes ul lul in let hur = own_lanes ur lur in let hdl = own_lanes ll ldl in let hdr =
    own_lanes lr ldr in
    let main = zip_lanes bit_xor _ _ _ _ hul hdr in
    let anti = zip_lanes bit_xor _ _ _ _ hur hdl in
    let changed = zip_lanes bit_xor _ _ _ _ (zip_lanes bit_or _ _ _ _ hul hdr) (zip_lanes bit_or _ _ _ _ hur hdl) in
    let flip_main = zip_lanes bit_xor _ _ _ _ changed (zip_lanes bit_and _ _ _ _ changed anti) in
    let flip_anti = zip_lanes bit_xor _ _ _ _ changed (zip_lanes bit_and _ _ _ _ changed main) in
    let a = (zip_lanes bit_xor _ _ _ _ hul flip_main) in
    let b = (zip_lanes bit_xor _ _ _ _ hur flip_anti) in
    let c = (zip_lanes bit_xor _ _ _ _ hdl flip_anti) in
    let d = (zip_lanes bit_xor _ _ _ _ hdr flip_main) in
    rw (a.each k l, b.each k l, c.each k l, d.each k l)
    (words_turned (get_or ul k 0) (get_or ur k 0) (get_or ll k 0) (get_or lr k 0))

pub vectors_long : (ul ur ll lr : List ℕ) → length ul ≡ 4 → length ur ≡ 4 → length ll ≡ 4 → length lr ≡ 4 →
    (length (xor_l ul (flip_main_l ul ur ll lr)) ≡ 4) × (length (xor_l ur (flip_anti_l ul ur ll lr)) ≡ 4)
    × (length (xor_l ll (flip_anti_l ul ur ll lr)) ≡ 4) × (length (xor_l lr (flip_main_l ul ur ll lr)) ≡ 4)
vectors_long ul ur ll lr lul lur ldl ldr = grind (arith, common_steps, length-zip2)

-- a chunk that is loaded, turned and stored
pub chunk_turned : (at : ℕ) (ul ur ll lr a b c d : List ℕ) → at + 4 ≤ length ul → at + 4 ≤ length ur →
    at + 4 ≤ length ll → at + 4 ≤ length lr → length a ≡ 4 → length b ≡ 4 → length c ≡ 4 → length d ≡ 4 →
    ((k : ℕ) → k < 4 → AreCornerWordsTurnedAt k (chunk at 4 ul) (chunk at 4 ur) (chunk at 4 ll) (chunk at 4 lr) a b c d)
    → TurnsCornerWordsBetween at (at + 4) ul ur ll lr (put_chunk at ul a) (put_chunk at ur b) (put_chunk at ll c)
    (put_chunk at lr d)
chunk_turned at ul ur ll lr a b c d wul wur wdl wdr la lb lc ld turned = record {
  inside = λ k low high. inside_at k (k - at) (omega arith) (omega arith);
  below = λ k l. record {
    upper_left = get_or-put_chunk_below at ul a k 0 l;
    upper_right = get_or-put_chunk_below at ur b k 0 l;
    lower_left = get_or-put_chunk_below at ll c k 0 l;
    lower_right = get_or-put_chunk_below at lr d k 0 l;
  };
  above = grind (arith, common_steps, get_or-put_chunk_above);
}
  where
    stored : (xs v : List ℕ) (j : ℕ) → at + 4 ≤ length xs → length v ≡ 4 → j < 4 →
        get_or (put_chunk at xs v) (at + j) 0 ≡ get_or v j 0
    stored xs v j w l h = get_or-put_chunk_at at xs v j 0 (omega arith) (omega arith)

    inside_at : (k j : ℕ) → k ≡ at + j → j < 4 →
        AreCornerWordsTurnedAt k ul ur ll lr (put_chunk at ul a) (put_chunk at ur b) (put_chunk at ll c)
        (put_chunk at lr d)
    inside_at k j e l =
        let h = turned j l in
        let h =
        rw (
          get_or-chunk at 4 ul j 0 l,
          get_or-chunk at 4 ur j 0 l,
          get_or-chunk at 4 ll j 0 l,
          get_or-chunk at 4 lr j 0 l,
        ) at h in
        rw (e, stored ul a j wul la l, stored ur b j wur lb l, stored ll c j wdl lc l, stored lr d j wdr ld l) h
