-- A slot is laid from its front, and begins with the sector's bytes.
use Rattle.std.proofs.Common.{◌≡◌, ℕ, List, [], ◌++◌, length, take, drop, refl, sym, ap, subst, ◌∙◌, arith, append_assoc}
use Rattle.std.proofs.Math.Seq.{take-append_seam, drop-append-add, drop-append_seam}
use Rattle.std.proofs.lemmas.List.{append-nil, length-drop, take-append-drop, take-append-le, take_all}
use Rattle.std.specs.Prelude.{replicate}
use Rattle.fsd_bytes.specs.Bytes.{sector_len, u32, with_bytes}
use Rattle.fsd_formats.specs.Slot.{check_of, slot_of}

-- bytes that are put right behind a front
behind : (place : ℕ) (front rest bytes : List ℕ) → length front ≡ place → with_bytes place bytes (front ++ rest) ≡ (front ++ bytes) ++ drop (length bytes) rest
behind place front rest bytes e =
    let family = λ (n : ℕ). with_bytes n bytes (front ++ rest) ≡ (front ++ bytes) ++ drop (length bytes) rest in
    subst family e (rw (take-append_seam, drop-append-add) (sym (append_assoc front bytes (drop (length bytes) rest))))

zeros : List ℕ
zeros = replicate 520 0

no_rest : (a b : ℕ) → a ≡ 512 → b ≡ 8 → drop b (drop a zeros) ≡ []
unfolding zeros
no_rest a b ea eb = rw (ea, eb) refl

pub laid : (b e : List ℕ) → length b ≡ 512 → length e ≡ 8 → with_bytes 512 e (with_bytes 0 b (replicate 520 0)) ≡ b ++ e
unfolding zeros
laid b e eb ee =
    ap (with_bytes 512 e) (behind 0 [] zeros b refl)
    ∙ behind 512 b (drop (length b) zeros) e eb
    ∙ ap (λ r. (b ++ e) ++ r) (no_rest (length b) (length e) eb ee)
    ∙ append-nil (b ++ e)

pub front_is : (s : ℕ) (b slot : List ℕ) → length b ≡ sector_len → slot ≡ slot_of s b → take 512 slot ≡ b
front_is s b slot e is =
    ap (take 512) is
    ∙ take-append-le 512 b (u32 s ++ u32 (check_of b)) (omega arith)
    ∙ take_all 512 b (omega arith)

-- what stands behind the bytes
pub end_is : (s : ℕ) (b slot : List ℕ) → length b ≡ sector_len → slot ≡ slot_of s b → take 8 (drop 512 slot) ≡ u32 s ++ u32 (check_of b)
end_is s b slot e is =
    let end = u32 s ++ u32 (check_of b) in
    ap (λ (x : List ℕ). take 8 (drop 512 x)) is
    ∙ ap (λ (n : ℕ). take 8 (drop n (b ++ end))) (sym e)
    ∙ ap (take 8) (drop-append_seam b end)
    ∙ take_all 8 end (omega arith)

-- bytes with such an end are a slot
pub slot_by : (s : ℕ) (slot b : List ℕ) → length slot ≡ 520 → b ≡ take 512 slot → take 8 (drop 512 slot) ≡ u32 s ++ u32 (check_of b) → slot ≡ slot_of s b
slot_by s slot b long front end =
    sym (take-append-drop 512 slot)
    ∙ ap (λ e. take 512 slot ++ e) (sym (take_all 8 (drop 512 slot) (omega (arith, length-drop 512 slot, long))) ∙ end)
    ∙ ap (λ f. f ++ (u32 s ++ u32 (check_of b))) (sym front)
