-- The sectors in front of the log, in the order in which they are written.
use Rattle.std.proofs.Common.{◌≡◌, ◌≢◌, inl, inr, ℕ, zero, suc, ◌+◌, ◌<◌, ◌≤◌, List, [], ◌∷◌, length, refl, sym, ◌∙◌, ap, subst, arith, add-one}
use Rattle.std.specs.Prelude.{IsFalse, ◌==◌}
use Rattle.std.specs.List.{list_any}
use Rattle.std.proofs.lemmas.Bool.{cases_eq}
use Rattle.fsd_bytes.specs.Bytes.{sector}
use Rattle.std.proofs.lemmas.List.{get_or-set_same, get_or-set_other, length-set}
use Rattle.volume_layout.specs.declared.layout.Layout.{Layout}
use Rattle.sector_disk.specs.declared.sector.Sector.{Sector}
use Rattle.sector_disk.specs.declared.sector.Sector.TheVariants.{Whole, Damaged}
use Rattle.sector_disk.specs.Image.{sector_at, with_sector}
use Rattle.sector_disk.specs.Machine.{Moment, Holds}
use Rattle.version_data.specs.Writing.{lay_at}
use Rattle.version_data.proofs.LayLaws.{Monotone, holds_then}
use Rattle.volume_format.specs.Formatting.{head_place, head_sector, head_to, with_head}
use Rattle.volume_format.proofs.Laying.{monotone_sector}

-- ---- sectors whose bytes their place tells

module _ (image : List Sector) (place : ℕ → ℕ) (bytes : ℕ → List ℕ) where
  abbrev laid : ℕ → List Sector
  laid n = lay_at image place (λ k. bytes (place k)) n

  pub length-laid : (n : ℕ) → length (laid n) ≡ length image
  length-laid zero = refl
  length-laid (suc n) = length-set (laid n) (place n) (Whole (bytes (place n))) ∙ length-laid n

  pub laid_there : (s n j : ℕ) → j < n → place j ≡ s → s < length image → sector_at (laid n) s ≡ Whole (bytes s)
  laid_there s zero j lt here room = absurd (omega arith)
  laid_there s (suc n) j lt here room = elim (cases_eq (place n) s) [
    | inl is ↦ subst (λ (t : ℕ). sector_at (with_sector (laid n) t (bytes t)) s ≡ Whole (bytes s)) (sym is) (get_or-set_same (laid n) s (Whole (bytes s)) Damaged (omega (arith, length-laid n, room)))
    | inr isnt ↦ get_or-set_other (laid n) (place n) s (Whole (bytes (place n))) Damaged (λ e. isnt (sym e)) ∙ laid_there s n j (before n j s lt here isnt) here room
  ]
    where
      before : (n j s : ℕ) → j < suc n → place j ≡ s → place n ≢ s → j < n
      before n j s lt here isnt = elim (cases_eq j n) [
        | inl is ↦ absurd (isnt (ap place (sym is) ∙ here))
        | inr other ↦ omega (arith, lt, other)
      ]

  pub laid_elsewhere : (s n : ℕ) → ((j : ℕ) → place j ≢ s) → sector_at (laid n) s ≡ sector_at image s
  laid_elsewhere s zero out = refl
  laid_elsewhere s (suc n) out = get_or-set_other (laid n) (place n) s (Whole (bytes (place n))) Damaged (λ e. out n (sym e)) ∙ laid_elsewhere s n out

-- ---- the head

pub low : (j : ℕ) → head_place j < 16
low zero = omega arith
low (suc zero) = omega arith
low (suc (suc zero)) = omega arith
low (suc (suc (suc zero))) = omega arith
low (suc (suc (suc (suc zero)))) = omega arith
low (suc (suc (suc (suc (suc zero))))) = omega arith
low (suc (suc (suc (suc (suc (suc zero)))))) = omega arith
low (suc (suc (suc (suc (suc (suc (suc zero))))))) = omega arith
low (suc (suc (suc (suc (suc (suc (suc (suc zero)))))))) = omega arith
low (suc (suc (suc (suc (suc (suc (suc (suc (suc zero))))))))) = omega arith
low (suc (suc (suc (suc (suc (suc (suc (suc (suc (suc zero)))))))))) = omega arith
low (suc (suc (suc (suc (suc (suc (suc (suc (suc (suc (suc zero))))))))))) = omega arith
low (suc (suc (suc (suc (suc (suc (suc (suc (suc (suc (suc (suc zero)))))))))))) = omega arith
low (suc (suc (suc (suc (suc (suc (suc (suc (suc (suc (suc (suc (suc zero))))))))))))) = omega arith
low (suc (suc (suc (suc (suc (suc (suc (suc (suc (suc (suc (suc (suc (suc zero)))))))))))))) = omega arith
low (suc (suc (suc (suc (suc (suc (suc (suc (suc (suc (suc (suc (suc (suc (suc zero))))))))))))))) = omega arith
low (suc (suc (suc (suc (suc (suc (suc (suc (suc (suc (suc (suc (suc (suc (suc (suc j)))))))))))))))) = omega arith

where_in : (s : ℕ) → s < 16 → (j : ℕ) × (j < 16) × (head_place j ≡ s)
where_in zero lt = (15, omega arith, refl)
where_in (suc zero) lt = (0, omega arith, refl)
where_in (suc (suc zero)) lt = (1, omega arith, refl)
where_in (suc (suc (suc zero))) lt = (2, omega arith, refl)
where_in (suc (suc (suc (suc zero)))) lt = (14, omega arith, refl)
where_in (suc (suc (suc (suc (suc zero))))) lt = (3, omega arith, refl)
where_in (suc (suc (suc (suc (suc (suc zero)))))) lt = (4, omega arith, refl)
where_in (suc (suc (suc (suc (suc (suc (suc zero))))))) lt = (5, omega arith, refl)
where_in (suc (suc (suc (suc (suc (suc (suc (suc zero)))))))) lt = (12, omega arith, refl)
where_in (suc (suc (suc (suc (suc (suc (suc (suc (suc zero))))))))) lt = (6, omega arith, refl)
where_in (suc (suc (suc (suc (suc (suc (suc (suc (suc (suc zero)))))))))) lt = (7, omega arith, refl)
where_in (suc (suc (suc (suc (suc (suc (suc (suc (suc (suc (suc zero))))))))))) lt = (8, omega arith, refl)
where_in (suc (suc (suc (suc (suc (suc (suc (suc (suc (suc (suc (suc zero)))))))))))) lt = (13, omega arith, refl)
where_in (suc (suc (suc (suc (suc (suc (suc (suc (suc (suc (suc (suc (suc zero))))))))))))) lt = (9, omega arith, refl)
where_in (suc (suc (suc (suc (suc (suc (suc (suc (suc (suc (suc (suc (suc (suc zero)))))))))))))) lt = (10, omega arith, refl)
where_in (suc (suc (suc (suc (suc (suc (suc (suc (suc (suc (suc (suc (suc (suc (suc zero))))))))))))))) lt = (11, omega arith, refl)
where_in (suc (suc (suc (suc (suc (suc (suc (suc (suc (suc (suc (suc (suc (suc (suc (suc s)))))))))))))))) lt = absurd (omega (arith, lt))

blank_at : (l : Layout) (s : ℕ) → s < 16 → IsFalse (list_any (λ t. t == s) (0 ∷ 4 ∷ 8 ∷ 12 ∷ [])) → head_sector l s ≡ sector []
blank_at l zero lt none = absurd (cc none)
blank_at l (suc zero) lt none = refl
blank_at l (suc (suc zero)) lt none = refl
blank_at l (suc (suc (suc zero))) lt none = refl
blank_at l (suc (suc (suc (suc zero)))) lt none = absurd (cc none)
blank_at l (suc (suc (suc (suc (suc zero))))) lt none = refl
blank_at l (suc (suc (suc (suc (suc (suc zero)))))) lt none = refl
blank_at l (suc (suc (suc (suc (suc (suc (suc zero))))))) lt none = refl
blank_at l (suc (suc (suc (suc (suc (suc (suc (suc zero)))))))) lt none = absurd (cc none)
blank_at l (suc (suc (suc (suc (suc (suc (suc (suc (suc zero))))))))) lt none = refl
blank_at l (suc (suc (suc (suc (suc (suc (suc (suc (suc (suc zero)))))))))) lt none = refl
blank_at l (suc (suc (suc (suc (suc (suc (suc (suc (suc (suc (suc zero))))))))))) lt none = refl
blank_at l (suc (suc (suc (suc (suc (suc (suc (suc (suc (suc (suc (suc zero)))))))))))) lt none = absurd (cc none)
blank_at l (suc (suc (suc (suc (suc (suc (suc (suc (suc (suc (suc (suc (suc zero))))))))))))) lt none = refl
blank_at l (suc (suc (suc (suc (suc (suc (suc (suc (suc (suc (suc (suc (suc (suc zero)))))))))))))) lt none = refl
blank_at l (suc (suc (suc (suc (suc (suc (suc (suc (suc (suc (suc (suc (suc (suc (suc zero))))))))))))))) lt none = refl
blank_at l (suc (suc (suc (suc (suc (suc (suc (suc (suc (suc (suc (suc (suc (suc (suc (suc s)))))))))))))))) lt none = absurd (omega (arith, lt))

module _ (l : Layout) (i : List Sector) where
  pub length-head : length (with_head l i) ≡ length i
  length-head = length-laid i head_place (head_sector l) 16

  pub head_behind : (s : ℕ) → 16 ≤ s → sector_at (with_head l i) s ≡ sector_at i s
  head_behind s le = laid_elsewhere i head_place (head_sector l) s 16 (λ j is. absurd (omega (arith, low j, is, le)))

  pub head_at : (s : ℕ) → s < 16 → 16 ≤ length i → sector_at (with_head l i) s ≡ Whole (head_sector l s)
  head_at s lt room = let at = where_in s lt in laid_there i head_place (head_sector l) s 16 at.0 at.1 at.2 (omega (arith, lt, room))

  pub head_blank : (s : ℕ) → s < 16 → 16 ≤ length i → IsFalse (list_any (λ t. t == s) (0 ∷ 4 ∷ 8 ∷ 12 ∷ [])) → sector_at (with_head l i) s ≡ Whole (sector [])
  head_blank s lt room none = head_at s lt room ∙ ap (λ (b : List ℕ). Whole b) (blank_at l s lt none)

-- one sector more
pub head_more : (l : Layout) (old mid new : Moment) (k place : ℕ) (bytes : List ℕ) → place ≡ head_place k → bytes ≡ head_sector l place
    → Holds old (head_to l old.image k) mid → Holds mid (with_sector mid.image place bytes) new → Holds old (head_to l old.image (k + 1)) new
head_more l old mid new k place bytes at is so_far next =
    let more = holds_then (λ image. with_sector image place bytes) old mid new (head_to l old.image k) (monotone_sector place bytes) so_far next in
    let told = subst (λ (b : List ℕ). Holds old (with_sector (head_to l old.image k) place b) new) is more in
    let there = subst (λ (p : ℕ). Holds old (with_sector (head_to l old.image k) p (head_sector l p)) new) at told in
    subst (λ (n : ℕ). Holds old (head_to l old.image n) new) (sym (add-one k)) there

worn_laid : (place : ℕ → ℕ) (bytes : ℕ → List ℕ) (n : ℕ) → Monotone (λ image. lay_at image place bytes n)
worn_laid place bytes zero = record { worn = λ may a b worn. worn }
worn_laid place bytes (suc n) = record { worn = λ may a b worn. (monotone_sector (place n) (bytes n)).worn may _ _ ((worn_laid place bytes n).worn may a b worn) }

pub monotone_head : (l : Layout) → Monotone (with_head l)
monotone_head l = worn_laid head_place (λ k. head_sector l (head_place k)) 16
