-- The images of a table: the bytes of its pages, in the cache or by the source.
-- The laws stand here since a table's `impl` rests on them.
use Rattle.std.proofs.Common.{◌≡◌, ℕ, ◌<◌, false, List, [], length, get_or, Option, Some, None, option_map, refl, sym, ap, ◌∙◌, subst, arith, eqb-true, length-set}
use Rattle.std.specs.Prelude.{nat_eq, slice_get, slice_set}
use Rattle.std.specs.List.{range_with_len}
use Rattle.std.specs.Option.{unwrap_or, option_or}
use Rattle.std.proofs.lemmas.Bool.{eqb-false}
use Rattle.std.proofs.lemmas.List.{ext_get_or, get_or-set_same, get_or-set_other}
use Rattle.std.proofs.lemmas.List.FromFn.{length-range_with_len, length-map-range_with_len, get_or-range_with_len, get_or-map-range_with_len}
use Rattle.std.proofs.lemmas.Option.{slice_get-get_or, slice_get-map, slice_get_within, get_or_from_slice_get}
use Rattle.page_cache.specs.Cache.{CacheValue, newest_bytes, with_written}
use Rattle.page_cache.proofs.Entries.{by_bool}
use Rattle.page_cache.proofs.WrittenLaws.{bytes_written, bytes_beside}
use Rattle.table_pages.specs.Kept.{images_given}

module _ (f : ℕ → Option (List ℕ)) (n : ℕ) where
  pub image_count : length (images_given f n) ≡ n
  unfolding images_given
  image_count = length-map-range_with_len (λ page. unwrap_or (f page) []) 0 n

  image_or : (page : ℕ) → page < n → get_or (images_given f n) page [] ≡ unwrap_or (f page) []
  unfolding images_given
  image_or page lt = get_or-map-range_with_len (λ p. unwrap_or (f p) []) 0 n page page [] lt (omega arith)

  pub image_at : (page : ℕ) (bytes : List ℕ) → page < n → f page ≡ Some bytes → slice_get (images_given f n) page ≡ Some bytes
  image_at page bytes lt is =
      slice_get-get_or (images_given f n) page [] (omega (arith, lt, image_count))
      ∙ ap (λ (b : List ℕ). Some b) (image_or page lt ∙ ap (λ (o : Option (List ℕ)). unwrap_or o []) is)

module _ (f g : ℕ → Option (List ℕ)) (n : ℕ) where
  -- where all are given alike
  pub images_same : ((page : ℕ) → g page ≡ f page) → images_given g n ≡ images_given f n
  images_same same = λ i. images_given (λ page. same page i) n

  -- where one is given alike
  pub image_same : (page : ℕ) → g page ≡ f page → slice_get (images_given g n) page ≡ slice_get (images_given f n) page
  unfolding images_given
  image_same page same = slice_get-map (λ p. unwrap_or (g p) []) (range_with_len 0 n) page ∙ at (slice_get (range_with_len 0 n) page) refl ∙ sym (slice_get-map (λ p. unwrap_or (f p) []) (range_with_len 0 n) page)
    where
      at : (o : Option ℕ) → slice_get (range_with_len 0 n) page ≡ o → option_map (λ p. unwrap_or (g p) []) o ≡ option_map (λ p. unwrap_or (f p) []) o
      at None is = refl
      at (Some p) is =
          let lt = slice_get_within (range_with_len 0 n) page p is in
          let here : page ≡ p = omega arith ∙ sym (get_or-range_with_len 0 n page 0 (omega (arith, lt, length-range_with_len 0 n))) ∙ get_or_from_slice_get (range_with_len 0 n) page p 0 is in
          ap (λ (o : Option (List ℕ)). Some (unwrap_or o [])) (subst (λ (k : ℕ). g k ≡ f k) here same)

  -- where one is given otherwise
  pub images_set : (page : ℕ) (bytes : List ℕ) → g page ≡ Some bytes → ((q : ℕ) → nat_eq page q ≡ false → g q ≡ f q) → images_given g n ≡ slice_set (images_given f n) page bytes
  images_set page bytes is others =
      ext_get_or [] (images_given g n) (slice_set (images_given f n) page bytes) (image_count g n ∙ sym (image_count f n) ∙ sym (length-set (images_given f n) page bytes))
      (λ q lt. by_bool (nat_eq page q)
      (λ t. let same : page ≡ q = eqb-true page q t in
      let within : q < n = omega (arith, lt, image_count g n) in
      image_or g n q within ∙ ap (λ (o : Option (List ℕ)). unwrap_or o []) (ap g (sym same) ∙ is)
      ∙ sym (ap (λ (k : ℕ). get_or (slice_set (images_given f n) page bytes) k []) (sym same) ∙ get_or-set_same (images_given f n) page bytes [] (omega (arith, within, same, image_count f n))))
      (λ t. let within : q < n = omega (arith, lt, image_count g n) in
      image_or g n q within ∙ ap (λ (o : Option (List ℕ)). unwrap_or o []) (others q t) ∙ sym (image_or f n q within)
      ∙ sym (get_or-set_other (images_given f n) page q bytes [] (λ e. eqb-false page q t (sym e)))))

-- ---- a page is written

module _ (page : ℕ) (bytes : List ℕ) (c : CacheValue) where
  pub images_written : (source : ℕ → Option (List ℕ)) (n : ℕ) → images_given (newest_bytes (with_written page bytes c) source) n ≡ slice_set (images_given (newest_bytes c source) n) page bytes
  images_written source n = images_set (newest_bytes c source) (newest_bytes (with_written page bytes c) source) n page bytes
      (ap (λ (o : Option (List ℕ)). option_or o (source page)) (bytes_written page bytes c))
      (λ q t. ap (λ (o : Option (List ℕ)). option_or o (source q)) (bytes_beside page bytes c q t))
