-- Two parts of what a `&mut` points at leave the function, and the whole's last value follows theirs. Assumes `Logic`.
use mathlib.Core.Path.{refl}
use Prim.Native.Nat.{ℕ}
use mathlib.Core.List.{List, [], ◌∷◌}
use seplogic.Ra.Ura.{Ura}
use mir.Syntax.{Lifetime}
use mir.Val.{Val, vptr}
use base.Stored.{Gv}
use base.Logic.{SProp, ent, sep, ex}
use base.Fml.{Lft, GName, Share, fobs, fauth, fbor, fobor, flft}
use types.Logic.{Logic, sem}
use types.SemTy.{Body}
use types.Follow.{takes_two}
use types.Kit.{‵, raw, ◌⊛◌, some, later, ◌$◌, ◌∵◌, !, qed, move, use1, split, split3, pick, group, fjoin3, feq_i, updating, await, now, show, done}
use denote.RattleType.{RattleType}
use denote.Memory.{mem}
use denote.Ref.{MutBor, MutRef}
use denote.Follow.{both_by, follows_both}

module _ {M : Type 1} {𝓤 : Ura M} (𝓛 : Logic 𝓤) (R T U : RattleType) (F : T.Denot → U.Denot → R.Denot) where
  open 𝓛 use {H, A}

  module _ (ℓ : Lifetime) (κ : Lft) (q : Share) (b o b₁ o₁ b₂ o₂ : ℕ) (γ : GName) (Rest : SProp 𝓤)
      (back : (v : T.Denot) (w : U.Denot) → ent 𝓤 (sep 𝓤 (sem 𝓛 ((mem T).own_at v b₁ o₁)) (sep 𝓤 (sem 𝓛 ((mem U).own_at w b₂ o₂)) Rest)) (sem 𝓛 ((mem R).own_at (F v w) b o))) where
    abbrev pub first_of : T.Denot → GName × GName → MutBor T.Denot
    first_of y γs = record { ref_ptr = (b₁, o₁); ghost_name = γs.0; now = y }

    abbrev pub second_of : U.Denot → GName × GName → MutBor U.Denot
    second_of z γs = record { ref_ptr = (b₂, o₂); ghost_name = γs.1; now = z }

    -- the two references, the token, and how the whole follows them
    abbrev pub Parts : T.Denot → U.Denot → GName × GName → SProp 𝓤
    Parts y z γs = sep 𝓤 (sem 𝓛 ((MutRef ℓ κ T).own_val (first_of y γs) (vptr b₁ o₁ ∷ []))) (sep 𝓤 (sem 𝓛 ((MutRef ℓ κ U).own_val (second_of z γs) (vptr b₂ o₂ ∷ [])))
        (sep 𝓤 (A.lft κ q) (sem 𝓛 (follows_both R T U γ γs.0 γs.1 F))))

    pub lends_Parts : (u v : Gv) (y : T.Denot) (z : U.Denot)
        → ent 𝓤 (sep 𝓤 (A.obor κ q (Body (mem R) b o γ)) (sep 𝓤 (A.obs γ u) (sep 𝓤 (A.auth γ v) (sep 𝓤 (sem 𝓛 ((mem T).own_at y b₁ o₁)) (sep 𝓤 (sem 𝓛 ((mem U).own_at z b₂ o₂)) Rest))))) (H.⇛ (ex 𝓤 (Parts y z)))
    unfolding both_by
    lends_Parts u v y z =
        qed 𝓛 (‵ (fobor κ q (Body (mem R) b o γ)) ∷ ‵ (fobs γ u) ∷ ‵ (fauth γ v) ∷ ‵ ((mem T).own_at y b₁ o₁) ∷ ‵ ((mem U).own_at z b₂ o₂) ∷ raw Rest ∷ []) ∵ updating ! $ group ! 6 $
        use1 𝓛 (later (some (λ (γs : GName × GName). (‵ (fobs γs.0 (T.coded.code y)) ⊛ ‵ (fbor κ (Body (mem T) b₁ o₁ γs.0))) ⊛ (‵ (fobs γs.1 (U.coded.code z)) ⊛ ‵ (fbor κ (Body (mem U) b₂ o₂ γs.1)))
        ⊛ ‵ (flft κ q) ⊛ ‵ (follows_both R T U γ γs.0 γs.1 F))))
        (takes_two 𝓛 (mem R) (mem T) (mem U) F κ q b o b₁ o₁ b₂ o₂ γ Rest back u v y z) $ await ! tt $ pick ! (λ γs. split3 ! $
        split ! $ feq_i ! (List Val) (vptr b₁ o₁ ∷ []) (vptr b₁ o₁ ∷ []) refl $ fjoin3 ! $ move ! (1 ∷ []) $
        split ! $ feq_i ! (List Val) (vptr b₂ o₂ ∷ []) (vptr b₂ o₂ ∷ []) refl $ fjoin3 ! $ move ! (1 ∷ 0 ∷ []) $ now ! $ show ! (Parts y z) γs $ done !)
