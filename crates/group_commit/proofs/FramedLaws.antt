-- The images of frames that are stamped are those of a record.
use Rattle.std.proofs.Common.{◌≡◌, ◌⊎◌, inl, inr, ℕ, ◌+◌, ◌<◌, ◌≤◌, true, List, [], ◌++◌, length, map, take, drop, get_or, Option, Some, IfSome, sym, ap, subst, ◌∙◌, arith}
use Rattle.std.specs.List.{flat_map}
use Rattle.std.proofs.lemmas.Bool.{cases_lt}
use Rattle.std.proofs.lemmas.List.{get_or-map, length-append, length-drop, length-take-le, take_all}
use Rattle.run_table.specs.Space.{contains}
use Rattle.fsd_formats.specs.Record.{Stamp, AreStamped, are_pages, bears, stamp_bytes}
use Rattle.fsd_log.specs.Borne.{FitsStamp}
use Rattle.fsd_log.specs.Judged.{sector_in}
use Rattle.fsd_log.specs.Laid.{slices}
use Rattle.fsd_sound.specs.Mounted.{image_at}
use Rattle.page_cache.specs.Cache.{CacheValue, IsResident, cached_bytes}
use Rattle.group_commit.specs.Cached.{frame_bytes, stamped_frames}
use Rattle.group_commit.specs.Resident.{IsImageOf, stamped, with_stamp}
use Rattle.group_commit.proofs.AllLaidLaws.{slice_at}
use Rattle.group_commit.proofs.FrameLaws.{bytes_then, frame_is, there_then}
use Rattle.group_commit.proofs.ImageLaws.{are_stamped, bears-with_stamp, below_at, map_same, pages_of, slices_laid, stamped_at}
use Rattle.group_commit.proofs.OrderLaws.{contained_index, index_contained}

-- a sector that is stamped was one before
sector_before : (stamp : Stamp) (bytes : List ℕ) → length (with_stamp stamp bytes) ≡ 512 → length bytes ≡ 512
sector_before stamp bytes long = by (cases_lt (length bytes) 16)
  where
    parts : length (take 16 bytes) + (8 + length (drop 24 bytes)) ≡ 512
    parts = omega (arith, long, length-append (take 16 bytes) (stamp_bytes stamp ++ drop 24 bytes), length-append (stamp_bytes stamp) (drop 24 bytes))

    by : (length bytes < 16) ⊎ (16 ≤ length bytes) → length bytes ≡ 512
    by (inl short) = absurd (omega (arith, parts, short, length-drop 24 bytes, ap length (take_all 16 bytes (omega (arith, short)))))
    by (inr enough) = omega (arith, parts, length-drop 24 bytes, length-take-le 16 bytes enough)

module _ (stamp read : Stamp) (fits : FitsStamp read) (same : read ≡ stamp) (count : ℕ) (xs : List ℕ) (are : are_pages count xs ≡ true) (c d : CacheValue) (made : d ≡ stamped_frames read xs c)
    (there : (p : ℕ) → contains xs p ≡ true → IsResident c p) (images_are : (p : ℕ) → contains xs p ≡ true → IfSome (cached_bytes c p) (IsImageOf p))
    (whole : (k : ℕ) → k < length xs → length (frame_bytes d (get_or xs k 0)) ≡ 512) (images : List ℕ) (laid : images ≡ flat_map (frame_bytes d) xs) where
  bytes_is : (p : ℕ) → contains xs p ≡ true → frame_bytes d p ≡ with_stamp read (frame_bytes c p)
  bytes_is p is = ap (λ (v : CacheValue). frame_bytes v p) made ∙ bytes_then read xs c p is (there p is)

  long_now : (p : ℕ) → contains xs p ≡ true → length (frame_bytes d p) ≡ 512
  long_now p is = let at = contained_index xs p is in subst (λ (q : ℕ). length (frame_bytes d q) ≡ 512) at.is (whole at.index at.inside)

  long_before : (p : ℕ) → contains xs p ≡ true → length (frame_bytes c p) ≡ 512
  long_before p is = sector_before read (frame_bytes c p) (sym (ap length (bytes_is p is)) ∙ long_now p is)

  image_is : (p : ℕ) → contains xs p ≡ true → IsImageOf p (frame_bytes c p)
  image_is p is = subst (λ (o : Option (List ℕ)). IfSome o (IsImageOf p)) (frame_is c p (there p is)) (images_are p is)

  bear_is : (p : ℕ) → contains xs p ≡ true → bears p read (frame_bytes d p) ≡ true
  bear_is p is = ap (bears p read) (bytes_is p is) ∙ bears-with_stamp read fits p (frame_bytes c p) (long_before p is) (image_is p is)

  slices_are : slices (length xs) images ≡ map (frame_bytes d) xs
  slices_are = ap (slices (length xs)) laid ∙ slices_laid (frame_bytes d) xs long_now

  pub record_stamped : AreStamped stamp xs (slices (length xs) images)
  record_stamped = subst (λ (t : Stamp). AreStamped t xs (slices (length xs) images)) same (subst (AreStamped read xs) (sym slices_are) (are_stamped (frame_bytes d) read xs bear_is))

  pub record_frames : (k : ℕ) → k < length xs → cached_bytes d (get_or xs k 0) ≡ Some (sector_in images k)
  record_frames k lt =
      let page : ℕ = get_or xs k 0 in
      let inside : IsResident d page = subst (λ (v : CacheValue). IsResident v page) (sym made) (there_then read xs c page (there page (index_contained xs k lt))) in
      let same : frame_bytes d page ≡ sector_in images k =
      sym (get_or-map (frame_bytes d) xs k 0 [] lt) ∙ ap (λ (ys : List (List ℕ)). get_or ys k []) (sym slices_are) ∙ slice_at (length xs) images k lt in
      frame_is d page inside ∙ ap (λ (b : List ℕ). Some b) same

  module _ (pages : List (List ℕ)) (table : length pages ≡ count) (agrees : (p : ℕ) (bytes : List ℕ) → cached_bytes c p ≡ Some bytes → image_at pages p ≡ bytes) where
    page_is : (p : ℕ) → contains xs p ≡ true → frame_bytes d p ≡ image_at (stamped read xs pages) p
    page_is p is =
        let all = pages_of count xs are in
        bytes_is p is ∙ ap (with_stamp read) (sym (agrees p (frame_bytes c p) (frame_is c p (there p is))))
        ∙ sym (stamped_at read xs pages p all.ascends is (omega (arith, table, below_at count xs all.below p is)))

    pub record_images : slices (length xs) images ≡ map (image_at (stamped stamp xs pages)) xs
    record_images = slices_are ∙ map_same (frame_bytes d) (image_at (stamped read xs pages)) xs page_is ∙ ap (λ (t : Stamp). map (image_at (stamped t xs pages)) xs) same
