use Rattle.std.proofs.Common.{List, [], ◌∷◌, refl, arith, sym, subst}
use Rattle.client_desk.specs.declared.client.Client.{Client}
use Rattle.client_desk.specs.Clients.{IsDesk}
use Rattle.client_desk.specs.Ends.{Sits}
use Rattle.client_desk.proofs.FinishLaws.{cleared_more, cleared_none, cleared_stands, gone, leaves_none, left_none, of_next}
use Rattle.client_desk.proofs.desk.Desk.finish.Goals as goal

pub end-requires : goal.end-requires
end-requires g c =
    let V = g.V.Files in
    let all : List Client = c.self.inside.first ∷ c.self.inside.second ∷ c.self.inside.third ∷ c.self.inside.fourth ∷ c.self.inside.fifth ∷ c.self.inside.sixth ∷ c.self.inside.seventh ∷ c.self.inside.eighth ∷ [] in
    let s0 = V.state c.args.v.now in
    let l0 = left_none s0 all refl (subst (λ (x : List Client). IsDesk s0 x) (sym c.self.view_is) c.requires) in
    of_next s0 all 0 l0.desk

pub end-requires-2 : goal.end-requires-2
end-requires-2 g c =
    let V = g.V.Files in
    let all : List Client = c.self.inside.first ∷ c.self.inside.second ∷ c.self.inside.third ∷ c.self.inside.fourth ∷ c.self.inside.fifth ∷ c.self.inside.sixth ∷ c.self.inside.seventh ∷ c.self.inside.eighth ∷ [] in
    let s0 = V.state c.args.v.now in
    let s1 = V.state c.end.new.v in
    let l0 = left_none s0 all refl (subst (λ (x : List Client). IsDesk s0 x) (sym c.self.view_is) c.requires) in
    let l1 = gone s0 s0 s1 all 0 (omega arith) l0 c.end.ensures.state in
    of_next s1 all 1 l1.desk

pub end-requires-3 : goal.end-requires-3
end-requires-3 g c =
    let V = g.V.Files in
    let all : List Client = c.self.inside.first ∷ c.self.inside.second ∷ c.self.inside.third ∷ c.self.inside.fourth ∷ c.self.inside.fifth ∷ c.self.inside.sixth ∷ c.self.inside.seventh ∷ c.self.inside.eighth ∷ [] in
    let s0 = V.state c.args.v.now in
    let s1 = V.state c.end.new.v in
    let s2 = V.state c.end-2.new.v in
    let l0 = left_none s0 all refl (subst (λ (x : List Client). IsDesk s0 x) (sym c.self.view_is) c.requires) in
    let l1 = gone s0 s0 s1 all 0 (omega arith) l0 c.end.ensures.state in
    let l2 = gone s0 s1 s2 all 1 (omega arith) l1 c.end-2.ensures.state in
    of_next s2 all 2 l2.desk

pub end-requires-4 : goal.end-requires-4
end-requires-4 g c =
    let V = g.V.Files in
    let all : List Client = c.self.inside.first ∷ c.self.inside.second ∷ c.self.inside.third ∷ c.self.inside.fourth ∷ c.self.inside.fifth ∷ c.self.inside.sixth ∷ c.self.inside.seventh ∷ c.self.inside.eighth ∷ [] in
    let s0 = V.state c.args.v.now in
    let s1 = V.state c.end.new.v in
    let s2 = V.state c.end-2.new.v in
    let s3 = V.state c.end-3.new.v in
    let l0 = left_none s0 all refl (subst (λ (x : List Client). IsDesk s0 x) (sym c.self.view_is) c.requires) in
    let l1 = gone s0 s0 s1 all 0 (omega arith) l0 c.end.ensures.state in
    let l2 = gone s0 s1 s2 all 1 (omega arith) l1 c.end-2.ensures.state in
    let l3 = gone s0 s2 s3 all 2 (omega arith) l2 c.end-3.ensures.state in
    of_next s3 all 3 l3.desk

pub end-requires-5 : goal.end-requires-5
end-requires-5 g c =
    let V = g.V.Files in
    let all : List Client = c.self.inside.first ∷ c.self.inside.second ∷ c.self.inside.third ∷ c.self.inside.fourth ∷ c.self.inside.fifth ∷ c.self.inside.sixth ∷ c.self.inside.seventh ∷ c.self.inside.eighth ∷ [] in
    let s0 = V.state c.args.v.now in
    let s1 = V.state c.end.new.v in
    let s2 = V.state c.end-2.new.v in
    let s3 = V.state c.end-3.new.v in
    let s4 = V.state c.end-4.new.v in
    let l0 = left_none s0 all refl (subst (λ (x : List Client). IsDesk s0 x) (sym c.self.view_is) c.requires) in
    let l1 = gone s0 s0 s1 all 0 (omega arith) l0 c.end.ensures.state in
    let l2 = gone s0 s1 s2 all 1 (omega arith) l1 c.end-2.ensures.state in
    let l3 = gone s0 s2 s3 all 2 (omega arith) l2 c.end-3.ensures.state in
    let l4 = gone s0 s3 s4 all 3 (omega arith) l3 c.end-4.ensures.state in
    of_next s4 all 4 l4.desk

pub end-requires-6 : goal.end-requires-6
end-requires-6 g c =
    let V = g.V.Files in
    let all : List Client = c.self.inside.first ∷ c.self.inside.second ∷ c.self.inside.third ∷ c.self.inside.fourth ∷ c.self.inside.fifth ∷ c.self.inside.sixth ∷ c.self.inside.seventh ∷ c.self.inside.eighth ∷ [] in
    let s0 = V.state c.args.v.now in
    let s1 = V.state c.end.new.v in
    let s2 = V.state c.end-2.new.v in
    let s3 = V.state c.end-3.new.v in
    let s4 = V.state c.end-4.new.v in
    let s5 = V.state c.end-5.new.v in
    let l0 = left_none s0 all refl (subst (λ (x : List Client). IsDesk s0 x) (sym c.self.view_is) c.requires) in
    let l1 = gone s0 s0 s1 all 0 (omega arith) l0 c.end.ensures.state in
    let l2 = gone s0 s1 s2 all 1 (omega arith) l1 c.end-2.ensures.state in
    let l3 = gone s0 s2 s3 all 2 (omega arith) l2 c.end-3.ensures.state in
    let l4 = gone s0 s3 s4 all 3 (omega arith) l3 c.end-4.ensures.state in
    let l5 = gone s0 s4 s5 all 4 (omega arith) l4 c.end-5.ensures.state in
    of_next s5 all 5 l5.desk

pub end-requires-7 : goal.end-requires-7
end-requires-7 g c =
    let V = g.V.Files in
    let all : List Client = c.self.inside.first ∷ c.self.inside.second ∷ c.self.inside.third ∷ c.self.inside.fourth ∷ c.self.inside.fifth ∷ c.self.inside.sixth ∷ c.self.inside.seventh ∷ c.self.inside.eighth ∷ [] in
    let s0 = V.state c.args.v.now in
    let s1 = V.state c.end.new.v in
    let s2 = V.state c.end-2.new.v in
    let s3 = V.state c.end-3.new.v in
    let s4 = V.state c.end-4.new.v in
    let s5 = V.state c.end-5.new.v in
    let s6 = V.state c.end-6.new.v in
    let l0 = left_none s0 all refl (subst (λ (x : List Client). IsDesk s0 x) (sym c.self.view_is) c.requires) in
    let l1 = gone s0 s0 s1 all 0 (omega arith) l0 c.end.ensures.state in
    let l2 = gone s0 s1 s2 all 1 (omega arith) l1 c.end-2.ensures.state in
    let l3 = gone s0 s2 s3 all 2 (omega arith) l2 c.end-3.ensures.state in
    let l4 = gone s0 s3 s4 all 3 (omega arith) l3 c.end-4.ensures.state in
    let l5 = gone s0 s4 s5 all 4 (omega arith) l4 c.end-5.ensures.state in
    let l6 = gone s0 s5 s6 all 5 (omega arith) l5 c.end-6.ensures.state in
    of_next s6 all 6 l6.desk

pub end-requires-8 : goal.end-requires-8
end-requires-8 g c =
    let V = g.V.Files in
    let all : List Client = c.self.inside.first ∷ c.self.inside.second ∷ c.self.inside.third ∷ c.self.inside.fourth ∷ c.self.inside.fifth ∷ c.self.inside.sixth ∷ c.self.inside.seventh ∷ c.self.inside.eighth ∷ [] in
    let s0 = V.state c.args.v.now in
    let s1 = V.state c.end.new.v in
    let s2 = V.state c.end-2.new.v in
    let s3 = V.state c.end-3.new.v in
    let s4 = V.state c.end-4.new.v in
    let s5 = V.state c.end-5.new.v in
    let s6 = V.state c.end-6.new.v in
    let s7 = V.state c.end-7.new.v in
    let l0 = left_none s0 all refl (subst (λ (x : List Client). IsDesk s0 x) (sym c.self.view_is) c.requires) in
    let l1 = gone s0 s0 s1 all 0 (omega arith) l0 c.end.ensures.state in
    let l2 = gone s0 s1 s2 all 1 (omega arith) l1 c.end-2.ensures.state in
    let l3 = gone s0 s2 s3 all 2 (omega arith) l2 c.end-3.ensures.state in
    let l4 = gone s0 s3 s4 all 3 (omega arith) l3 c.end-4.ensures.state in
    let l5 = gone s0 s4 s5 all 4 (omega arith) l4 c.end-5.ensures.state in
    let l6 = gone s0 s5 s6 all 5 (omega arith) l5 c.end-6.ensures.state in
    let l7 = gone s0 s6 s7 all 6 (omega arith) l6 c.end-7.ensures.state in
    of_next s7 all 7 l7.desk

pub returns-clause-state : goal.returns-clause-state
returns-clause-state g c =
    let V = g.V.Files in
    let all : List Client = c.self.inside.first ∷ c.self.inside.second ∷ c.self.inside.third ∷ c.self.inside.fourth ∷ c.self.inside.fifth ∷ c.self.inside.sixth ∷ c.self.inside.seventh ∷ c.self.inside.eighth ∷ [] in
    let s0 = V.state c.args.v.now in
    let s1 = V.state c.end.new.v in
    let s2 = V.state c.end-2.new.v in
    let s3 = V.state c.end-3.new.v in
    let s4 = V.state c.end-4.new.v in
    let s5 = V.state c.end-5.new.v in
    let s6 = V.state c.end-6.new.v in
    let s7 = V.state c.end-7.new.v in
    let s8 = V.state c.end-8.new.v in
    let l0 = left_none s0 all refl (subst (λ (x : List Client). IsDesk s0 x) (sym c.self.view_is) c.requires) in
    let l1 = gone s0 s0 s1 all 0 (omega arith) l0 c.end.ensures.state in
    let l2 = gone s0 s1 s2 all 1 (omega arith) l1 c.end-2.ensures.state in
    let l3 = gone s0 s2 s3 all 2 (omega arith) l2 c.end-3.ensures.state in
    let l4 = gone s0 s3 s4 all 3 (omega arith) l3 c.end-4.ensures.state in
    let l5 = gone s0 s4 s5 all 4 (omega arith) l4 c.end-5.ensures.state in
    let l6 = gone s0 s5 s6 all 5 (omega arith) l5 c.end-6.ensures.state in
    let l7 = gone s0 s6 s7 all 6 (omega arith) l6 c.end-7.ensures.state in
    let l8 = gone s0 s7 s8 all 7 (omega arith) l7 c.end-8.ensures.state in
    leaves_none s0 s8 all refl l8.desk l8.frees

pub returns-clause-done : goal.returns-clause-done
returns-clause-done g c k clients now sits =
    let V = g.V.Files in
    let all : List Client = c.self.inside.first ∷ c.self.inside.second ∷ c.self.inside.third ∷ c.self.inside.fourth ∷ c.self.inside.fifth ∷ c.self.inside.sixth ∷ c.self.inside.seventh ∷ c.self.inside.eighth ∷ [] in
    let s0 = V.state c.args.v.now in
    let s1 = V.state c.end.new.v in
    let s2 = V.state c.end-2.new.v in
    let s3 = V.state c.end-3.new.v in
    let s4 = V.state c.end-4.new.v in
    let s5 = V.state c.end-5.new.v in
    let s6 = V.state c.end-6.new.v in
    let s7 = V.state c.end-7.new.v in
    let s8 = V.state c.end-8.new.v in
    let l0 = left_none s0 all refl (subst (λ (x : List Client). IsDesk s0 x) (sym c.self.view_is) c.requires) in
    let l1 = gone s0 s0 s1 all 0 (omega arith) l0 c.end.ensures.state in
    let l2 = gone s0 s1 s2 all 1 (omega arith) l1 c.end-2.ensures.state in
    let l3 = gone s0 s2 s3 all 2 (omega arith) l2 c.end-3.ensures.state in
    let l4 = gone s0 s3 s4 all 3 (omega arith) l3 c.end-4.ensures.state in
    let l5 = gone s0 s4 s5 all 4 (omega arith) l4 c.end-5.ensures.state in
    let l6 = gone s0 s5 s6 all 5 (omega arith) l5 c.end-6.ensures.state in
    let l7 = gone s0 s6 s7 all 6 (omega arith) l6 c.end-7.ensures.state in
    let l8 = gone s0 s7 s8 all 7 (omega arith) l7 c.end-8.ensures.state in
    let v0 = c.args.v.now in
    let v1 = c.end.new.v in
    let v2 = c.end-2.new.v in
    let v3 = c.end-3.new.v in
    let v4 = c.end-4.new.v in
    let v5 = c.end-5.new.v in
    let v6 = c.end-6.new.v in
    let v7 = c.end-7.new.v in
    let v8 = c.end-8.new.v in
    let h0 = cleared_none V.state V.holds all k clients v0 now (subst (λ (x : List Client). Sits V.state V.holds v0 x k clients now) (sym c.self.view_is) sits) in
    let h1 = cleared_more V.state V.holds 0 all k v0 v1 now refl (omega arith) l0.desk (λ z. c.end.ensures.done z now) h0 in
    let h2 = cleared_more V.state V.holds 1 all k v1 v2 now refl (omega arith) l1.desk (λ z. c.end-2.ensures.done z now) h1 in
    let h3 = cleared_more V.state V.holds 2 all k v2 v3 now refl (omega arith) l2.desk (λ z. c.end-3.ensures.done z now) h2 in
    let h4 = cleared_more V.state V.holds 3 all k v3 v4 now refl (omega arith) l3.desk (λ z. c.end-4.ensures.done z now) h3 in
    let h5 = cleared_more V.state V.holds 4 all k v4 v5 now refl (omega arith) l4.desk (λ z. c.end-5.ensures.done z now) h4 in
    let h6 = cleared_more V.state V.holds 5 all k v5 v6 now refl (omega arith) l5.desk (λ z. c.end-6.ensures.done z now) h5 in
    let h7 = cleared_more V.state V.holds 6 all k v6 v7 now refl (omega arith) l6.desk (λ z. c.end-7.ensures.done z now) h6 in
    let h8 = cleared_more V.state V.holds 7 all k v7 v8 now refl (omega arith) l7.desk (λ z. c.end-8.ensures.done z now) h7 in
    cleared_stands V.state V.holds all k v8 now refl l8.desk h8
