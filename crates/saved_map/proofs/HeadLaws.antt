-- The head of a map's sector as the code compares it.
use Rattle.std.proofs.Common.{◌≡◌, ℕ, List, ◌++◌, take, drop, Some, None, sym, ap, ◌∙◌}
use Rattle.std.proofs.lemmas.Bool.{cond-true}
use Rattle.std.proofs.lemmas.List.{take-append-drop}
use Rattle.fsd_bytes.specs.Bytes.{same_bytes, sector, u16_at, u32_at}
use Rattle.fsd_bytes.proofs.SameLaws.{is_same}
use Rattle.fsd_formats.specs.declared.map_head.MapHead.{MapHead}
use Rattle.fsd_formats.specs.MapSector.{map_head, read_map_head}

-- the numbers that stand where a head's would
abbrev pub head_at : List ℕ → MapHead
head_at b = record { epoch = u32_at 4 b; index = u16_at 8 b; pages = u16_at 10 b; versions = u32_at 12 b }

found_at : (b : List ℕ) → map_head (head_at b) ≡ take 16 b → read_map_head b ≡ Some (head_at b)
found_at b same =
    let spelled : map_head (head_at b) ++ drop 16 b ≡ b = ap (λ (x : List ℕ). x ++ drop 16 b) same ∙ take-append-drop 16 b in
    cond-true (same_bytes (map_head (head_at b) ++ drop 16 b) b) (Some (head_at b)) None (ap (λ (x : List ℕ). same_bytes x b) spelled ∙ is_same b)

pub head_found : (b alone : List ℕ) (h : MapHead) → h ≡ head_at b → alone ≡ sector (map_head h) → take 16 alone ≡ take 16 b → Some h ≡ read_map_head b
head_found b alone h is spelled same =
    let front : take 16 (sector (map_head h)) ≡ take 16 b = ap (take 16) (sym spelled) ∙ same in
    let head : map_head (head_at b) ≡ take 16 b = ap (λ (x : MapHead). map_head x) (sym is) ∙ front in
    ap (λ (x : MapHead). Some x) is ∙ sym (found_at b head)
