-- A thin function over a struct that is lent: `fn f(t: &mut T, input: &[u8], out: &mut [u8]) -> u64 { let s = g(*t, input, out); *t = s.table; s.word }`, over `fn g(t: T, input: &[u8], out: &mut [u8]) -> R`, where `struct R { table: T, word: u64 }`.
-- The walk is over any struct T of plain data, any name of R, and any contract that f and g have in common.
--     fn                the MIR of f
--     Q, E              the contract: `requires` is Q (table, input, output), and `ensures` is E (table, input, output; table, word, output at exit)
--     thin              where g meets it, f does
use mathlib.Core.Path.{◌≡◌, refl, sym, ◌∙◌, ap}
use mathlib.Core.HLevel.{is_prop→PathP}
use Prim.Native.Nat.{ℕ}
use mathlib.Core.List.{[], ◌∷◌, List}
use lib.ListN.{length}
use seplogic.Ra.Ura.{Ura}
use base.Fraction.{full_share}
use mir.Syntax.{Sym, Callee, Fn, local, value_local, ty_int, ty_ref, mut, imm, named, erased, w8, w64, place, deref, field as at_field, copy, rv_opd, addr_of, aggregate, seq, assign, call, return}
use mir.Val.{Val, vint, vptr}
use base.Logic.{SProp, ent, id⊢}
use base.Fml.{GName, Lft, Share, Fml, ftrue, fat, flft, fobs, fbor}
use base.Stored.{Coded-set, coded_via}
use prog.Wp.{Calls, Loops, WpFn, Tables}
use types.Logic.{Logic}
use types.Kit.{Item, ‵, raw, some, later, ◌⊛◌, ⋆, ◌$◌, ◌∵◌, !, qed, by, move, keep, drop, use1, use3, split, join, pick, rewrite, fsplit, fsplit3, fjoin, fjoin3, feq_l, feq_i, suffices, frame, await, done}
use types.Run.{look, look_raw, init, store_raw, forget, stop, hop, fld, from, load, addr, of_opd, and_then, no_more, assigns, land, returns, enter, alloc1, alloc0, params1, pass1, pass0, free1, free0}
use types.Part.{agg, whole, sub, look_in}
use types.SemTy.{Body, Arr}
use types.Hole.{Holey}
use sound.WpLaws.{FmC, fm_of, WpFn-mono}
use denote.RattleType.{Denots, owns}
use denote.Memory.{mem, pointee}
use denote.Laws.{Is, shows}
use denote.Plain.{uint_Makes}
use denote.Builtin.{u8, u64}
use denote.Ref.{Bor, MutBor, MutRef, at_last, mut_vals, mut_Tells}
use denote.Slice.{slice_ty, slice_val, shr_slice_vals, mut_slice_vals, MutSlice, ShrSlice, finally, shr_slice_Tells, mut_slice_Tells, shr_slice_Lawful, mut_slice_Lawful}
use denote.Signature.{plain, mut_ref_to, shr_slice_of, mut_slice_of}
use denote.Steps.{only, opens, closes, owned, peeks, nothing}
use denote.Struct.Steps.{spelt}
use denote.Struct.Struct.{Plains, layout, codeds}
use denote.Struct.Field.{Field, u64-field, rows}
use denote.Struct.Values.{Values, intos, intos_one}
use denote.Struct.Declared.{Declared, fields, shape, row, field}
use denote.Struct.Laws as LL
use denote.Triple.Spec.{Meets, triple_of}
use denote.Triple.Statement.{Contract, Triple}
use denote.Triple.Call.{calls_at}
use denote.Triple.Clauses.{Ended, Clauses, Lasts, ensured, lasts, closing}
use denote.Triple.Walked.{Stays, stay_ref, stay_dropped, gave_slice, walk_of, Goes-ref, Goes-dropped, Goes-gave_slice, Walks, ends_at, walked, walk_Meets}
use denote.Exit.{yes}

abbrev pub to_R : (T : Declared) (RD : Type 0) → (RD → T.D) → (RD → ℕ) → RD → Denots (rows (field T ∷ u64-field ∷ []))
to_R T RD table word r = (T.to (table r), (word r, tt))

module _ (T : Declared) (Lt : LL.Laws T) (PT : Plains (fields T)) (lw : LL.Lowered T) (ν : Sym) (RD : Type 0) (table : RD → T.D) (word : RD → ℕ)
    (one : (x y : RD) → to_R T RD table word x ≡ to_R T RD table word y → x ≡ y) where
  -- R as a declared type. Its record may have ghost fields: `Ghost` is that the parts are some record's, which is a proposition since a record is its parts (`one`)
  abbrev parts_R : List Field
  parts_R = field T ∷ u64-field ∷ []

  abbrev values_R : RD → Values parts_R
  values_R r = (table r, (word r, tt))

  values_set : IsSet (Values parts_R)
  values_set = Coded-set (coded_via (codeds (rows parts_R)) (intos parts_R) (intos_one parts_R))

  abbrev Of : Values parts_R → Type 0
  Of v = (r : RD) × (values_R r ≡ v)

  pub of_one : (v : Values parts_R) → IsProp (Of v)
  of_one v x y =
      let e : x.0 ≡ y.0 = one x.0 y.0 (ap (intos parts_R) (x.1 ∙ sym y.1)) in
      λ i. (e i, is_prop→PathP (λ j. values_R (e j) ≡ v) (λ j. values_set (values_R (e j)) v) x.1 y.1 i)

  abbrev pub R : Declared
  R = record {
    name = ν;
    args = [];
    types = [];
    parts = parts_R;
    D = RD;
    to = to_R T RD table word;
    to_one = one;
    as_values = values_R;
    to_is = λ r. refl;
    cover = record { Ghost = Of; ghosts = λ r. (r, refl); make = λ v x. x.0; eta = λ r. refl; beta = λ v x. x.1 };
    propositions = of_one;
  }

  abbrev LR : LL.Laws R
  LR = (LL.field_laws T Lt lw, (LL.u64-laws, tt))

  -- ---- f's MIR, and the two signatures
  abbrev pub fn : Callee → Fn
  fn g = record {
    lifetimes = 3;
    outlives = [];
    ty_params = [];
    givens = 0;
    params = 3;
    locals = local (ty_int w64) value_local ∷ local (ty_ref (named 0) mut (pointee (row T).written)) value_local ∷ local (slice_ty (ty_ref (named 1) imm (ty_int w8))) value_local ∷ local (slice_ty (ty_ref (named 2) mut (ty_int w8))) value_local
        ∷ local (layout (shape R)) value_local ∷ local (layout (shape T)) value_local ∷ local (ty_ref erased mut (ty_int w8)) value_local ∷ local (slice_ty (ty_ref erased mut (ty_int w8))) value_local ∷ local (layout (shape T)) value_local ∷ [];
    body = seq (assign (place 5 []) (rv_opd (copy (place 1 (deref (layout (shape T)) ∷ [])))))
        (seq (assign (place 6 []) (addr_of (place 3 (at_field 0 ∷ deref (ty_int w8) ∷ []))))
        (seq (assign (place 7 []) (aggregate (copy (place 6 []) ∷ copy (place 3 (at_field 1 ∷ [])) ∷ [])))
        (seq (call g (copy (place 5 []) ∷ copy (place 2 []) ∷ copy (place 7 []) ∷ []) (place 4 []))
        (seq (assign (place 8 []) (rv_opd (copy (place 4 (at_field 0 ∷ [])))))
        (seq (assign (place 1 (deref (layout (shape T)) ∷ [])) (rv_opd (copy (place 8 []))))
        (seq (assign (place 0 []) (rv_opd (copy (place 4 (at_field 1 ∷ []))))) return))))));
  }

  abbrev pub ended_f : Ended
  ended_f = record {
    signature = record { lifetimes = 3; outlives = []; params = mut_ref_to (0 ∷ []) tt (plain (λ _. row T)) ∷ shr_slice_of (1 ∷ []) tt (plain (λ _. u8)) ∷ mut_slice_of (2 ∷ []) tt (plain (λ _. u8)) ∷ []; result = plain (λ _. u64) };
    kept = (yes, (yes, (yes, tt)));
  }

  abbrev pub ended_g : Ended
  ended_g = record {
    signature = record { lifetimes = 2; outlives = []; params = plain (λ _. row T) ∷ shr_slice_of (0 ∷ []) tt (plain (λ _. u8)) ∷ mut_slice_of (1 ∷ []) tt (plain (λ _. u8)) ∷ []; result = plain (λ _. row R) };
    kept = (yes, (yes, (yes, tt)));
  }

  -- at exit: the table's borrow is still owned; nothing is had of the input; the output's borrow was given to the callee for good
  abbrev stayed : Stays ended_f.signature.params ended_f.kept
  stayed = (stay_ref (0 ∷ []) tt (plain (λ _. row T)), (stay_dropped (shr_slice_of (1 ∷ []) tt (plain (λ _. u8))) yes, (gave_slice (2 ∷ []) tt (plain (λ _. u8)), tt)))

  abbrev v_t : T.D → Val
  v_t = LL.val T Lt

  module _ {M : Type 1} {𝓤 : Ura M} (𝓛 : Logic 𝓤)
      (Q : T.D → Bor (List ℕ) → MutBor (List ℕ) → SProp 𝓤) (E : T.D → Bor (List ℕ) → MutBor (List ℕ) → T.D → ℕ → MutBor (List ℕ) → SProp 𝓤) where
    open 𝓛 use {H}

    abbrev pub clauses_f : Clauses 𝓤 ended_f
    clauses_f κs a = record { ghost = Unit {0}; requires = λ _. Q a.0.now a.1.0 a.1.1.0; ensures = λ _ r e. E a.0.now a.1.0 a.1.1.0 e.0.now r e.1.1.0 }

    abbrev pub clauses_g : Clauses 𝓤 ended_g
    clauses_g κs a = record { ghost = Unit {0}; requires = λ _. Q a.0 a.1.0 a.1.1.0; ensures = λ _ r e. E a.0 a.1.0 a.1.1.0 (table r) (word r) e.1.1.0 }

    abbrev pub G : Contract 𝓤
    G = triple_of 𝓛 ended_g.signature (closing 𝓛 ended_g clauses_g)

    module _ (κ κ₁ κ₂ : Lft) (q q₁ q₂ : Share) (b o : ℕ) (γ : GName) (h : T.D) (x₁ : Bor (List ℕ)) (x₂ : MutBor (List ℕ)) where
      abbrev s₁ : Val
      s₁ = slice_val x₁.ref_ptr (length x₁.now)

      abbrev s₂ : Val
      s₂ = slice_val x₂.ref_ptr (length x₂.now)

      abbrev a : MutBor T.D × (Bor (List ℕ) × (MutBor (List ℕ) × Unit {0}))
      a = (record { ref_ptr = (b, o); ghost_name = γ; now = h }, (x₁, (x₂, tt)))

      abbrev vals : List Val × (List Val × (List Val × Unit {0}))
      vals = (vptr b o ∷ [], (s₁ ∷ [], (s₂ ∷ [], tt)))

      abbrev Post : Val → SProp 𝓤
      Post = (walk_of 𝓛 ended_f stayed clauses_f).post (((κ, (κ₁, (κ₂, tt))), (q, (q₁, (q₂, tt))), tt, a, vals), tt)

      -- what g's triple binds outside
      abbrev to_g : G.Ghost
      to_g = (((κ₁, (κ₂, tt)), (q₁, (q₂, tt)), tt, (h, (x₁, (x₂, tt))), (v_t h ∷ [], (s₁ ∷ [], (s₂ ∷ [], tt)))), tt)

      -- what the two slices own, and the callee's tokens: as they stand at entry, after the table's
      abbrev Slices : Fml
      Slices = owns (ShrSlice (named 0) κ₁ u8 ∷ MutSlice (named 1) κ₂ u8 ∷ []) (x₁, (x₂, tt)) (s₁ ∷ [], (s₂ ∷ [], tt))

      abbrev Tokens : Item 𝓤
      Tokens = ‵ (flft κ₁ q₁) ⊛ ‵ (flft κ₂ q₂) ⊛ ‵ ftrue

      goes : Is (row T) h (v_t h ∷ []) → ent 𝓤 (⋆ 𝓛 (Tokens ∷ ‵ Slices ∷ raw (Q h x₁ x₂) ∷ [])) (G.pre to_g)
      goes is = qed 𝓛 (Tokens ∷ ‵ Slices ∷ raw (Q h x₁ x₂) ∷ []) ∵ move ! (1 ∷ []) $ owned ! (row T) (Is (row T)) (LL.makes T PT 𝓛) h _ is $ fjoin ! $ move ! (1 ∷ 0 ∷ []) $ join ! $ frame ! $ done !

      -- what whoever holds an R knows of its parts
      owed : (r : RD) (v : Val) → Is (row R) r (v ∷ []) → Is (row T) (table r) (v_t (table r) ∷ []) × (Is u64 (word r) (vint w64 (word r) ∷ []) × Unit {0})
      owed r v = LL.owed R LR r (v ∷ [])

      -- the output's borrow, which the callee hands back
      abbrev Out : Fml
      Out = fbor κ₂ (Body (Arr (Holey (mem u8)) (length x₂.now)) x₂.ref_ptr.0 x₂.ref_ptr.1 x₂.ghost_name)

      abbrev Left : RD → List ℕ → List (Item 𝓤)
      Left r zs = ‵ (fobs γ ((row T).coded.code (table r))) ∷ ‵ (fbor κ (Body (mem (row T)) b o γ)) ∷ ‵ (flft κ q) ∷ Tokens ∷ ‵ (finally u8 x₂.ghost_name zs) ∷ ‵ Out ∷ raw (E h x₁ x₂ (table r) (word r) (at_last x₂ zs)) ∷ []

      exits : (r : RD) (zs : List ℕ) → Is u64 (word r) (vint w64 (word r) ∷ []) → length zs ≡ length x₂.now → ent 𝓤 (⋆ 𝓛 (Left r zs)) (Post (vint w64 (word r)))
      exits r zs w l =
          qed 𝓛 (Left r zs) ∵
          suffices ! _ (ends_at 𝓛 ended_f stayed clauses_f (((κ, (κ₁, (κ₂, tt))), (q, (q₁, (q₂, tt))), tt, a, vals), tt) (vint w64 (word r)) (word r) (table r, (tt, (zs, tt))) (tt, (tt, (l, tt)))) $
          move ! (2 ∷ 3 ∷ []) $ join ! $ move ! (1 ∷ 2 ∷ []) $ feq_i ! (List Val) (vptr b o ∷ []) (vptr b o ∷ []) refl $ fjoin3 ! $
          -- [what t owns; the tokens; the last list; the output's borrow; E]
          move ! (2 ∷ 3 ∷ []) $ fjoin ! $ nothing ! $ move ! (1 ∷ 0 ∷ []) $ fjoin ! $ nothing ! $ fjoin ! $ move ! (1 ∷ 0 ∷ []) $ fjoin ! $
          owned ! u64 (Is u64) (uint_Makes 𝓛 w64) (word r) _ w $ move ! (1 ∷ 0 ∷ []) $ join ! $ move ! (1 ∷ 0 ∷ []) $ join ! $ frame ! $ done !

      module _ (C : Calls 𝓤 H) (Λ : Loops 𝓤 H) (g : Callee) (fm : FmC 𝓤 H 𝓛.laws C) (known : Triple 𝓤 (C g) G) where
        walk : Is (ShrSlice (named 1) κ₁ u8) x₁ (s₁ ∷ []) → Is (MutSlice (named 2) κ₂ u8) x₂ (s₂ ∷ [])
            → ent 𝓤 (⋆ 𝓛 (((‵ (flft κ q) ⊛ Tokens) ⊛ ‵ (owns (MutRef (named 0) κ (row T) ∷ ShrSlice (named 1) κ₁ u8 ∷ MutSlice (named 2) κ₂ u8 ∷ []) a vals)) ∷ raw (Q h x₁ x₂) ∷ [])) (WpFn 𝓤 H C Λ (fn g) (vptr b o ∷ s₁ ∷ s₂ ∷ []) Post)
        walk is₁ is₂ =
            qed 𝓛 (((‵ (flft κ q) ⊛ Tokens) ⊛ ‵ (owns (MutRef (named 0) κ (row T) ∷ ShrSlice (named 1) κ₁ u8 ∷ MutSlice (named 2) κ₂ u8 ∷ []) a vals)) ∷ raw (Q h x₁ x₂) ∷ []) ∵ split ! $ enter ! C Λ (fn g) (vptr b o ∷ s₁ ∷ s₂ ∷ []) _ $
            alloc1 ! (λ l₀. alloc1 ! (λ l₁. alloc1 ! (λ l₂. alloc1 ! (λ l₃. alloc1 ! (λ l₄. alloc1 ! (λ l₅. alloc1 ! (λ l₆. alloc1 ! (λ l₇. alloc1 ! (λ l₈. alloc0 ! $ params1 ! $
            pass1 ! (init ! 14 refl (tt, tt)) $ pass1 ! (init ! 12 refl ((shr_slice_Lawful 𝓛 (named 1) κ₁ u8).typed x₁ _ is₁).0) $ pass1 ! (init ! 10 refl ((mut_slice_Lawful 𝓛 (named 2) κ₂ u8).typed x₂ _ is₂).0) $ pass0 ! $
            -- [_8; …; _7; …; _6; …; _5; …; _4; …; _3; …; _2; …; _1; …; room for _0; …; the tokens (18); what the parameters own (19); Q (20)]: the borrow is opened
            move ! (19 ∷ []) $ fsplit ! $ fsplit3 ! $ drop ! $ move ! (21 ∷ []) $ split ! $ move ! (2 ∷ 3 ∷ 0 ∷ []) $
            opens ! tt (row T) {h = h} b o (λ vs. spelt ! (row T) (Is (row T)) (shows 𝓛 (row T)) (LL.vals T Lt) (LL.tells T Lt) full_share h vs b o $
            move ! (1 ∷ []) $ peeks ! (row T) (Is (row T)) (shows 𝓛 (row T)) h (v_t h ∷ []) (λ is. drop ! $
            -- [the table's cell; the open borrow; obs; auth; the tokens; the slices; _8 (6); …; _7 (8); …; _6 (10); …; _5 (12); …; _4 (14); …; _3 (16); …; _2 (18); …; _1 (20); …; room for _0 (22); …; Q (24)]
            assigns ! (of_opd ! (load ! (from ! (hop ! (look ! 20 refl) (stop !))) (look_raw ! 0 refl))) (from ! (stop !)) (init ! 12 refl ((LL.lawful T Lt 𝓛).typed h _ is).0) $
            assigns ! (addr ! (from ! (fld ! refl (hop ! (look_in ! 16 (sub ! 0 refl (whole !))) (stop !))))) (from ! (stop !)) (init ! 10 refl (tt, tt)) $
            assigns ! (agg ! (and_then ! (load ! (from ! (stop !)) (look ! 10 refl)) (and_then ! (load ! (from ! (fld ! refl (stop !))) (look_in ! 16 (sub ! 1 refl (whole !)))) (no_more !)))) (from ! (stop !)) (init ! 8 refl (tt, (tt, (record { fits = is₂.0.1.0 }, tt)))) $
            -- the call: [what it asks; the table's cell; the open borrow; obs; auth; _8 (5); …; _7 (7); …; _5 (11); …; _4 (13); …; _2 (17); …]
            move ! (4 ∷ 5 ∷ 24 ∷ []) $ use3 𝓛 (raw (G.pre to_g)) (goes is) $
            calls_at ! fm G known to_g (and_then ! (load ! (from ! (stop !)) (look ! 11 refl)) (and_then ! (load ! (from ! (stop !)) (look ! 17 refl)) (and_then ! (load ! (from ! (stop !)) (look ! 7 refl)) (no_more !)))) (λ v.
            use1 𝓛 (later (some (λ (r : RD). (Tokens ⊛ ‵ ((row R).own_val r (v ∷ []))) ⊛ raw (ensured 𝓛 ended_g clauses_g (κ₁, (κ₂, tt)) (h, (x₁, (x₂, tt))) tt r)))) (id⊢ 𝓤 _) $ await ! tt $ pick ! (λ r. split ! $ move ! (1 ∷ []) $
            use1 𝓛 (some (λ (zs : Lasts ended_g (κ₁, (κ₂, tt)) (h, (x₁, (x₂, tt)))). ‵ (lasts ended_g (κ₁, (κ₂, tt)) (h, (x₁, (x₂, tt))) zs) ⊛ raw (E h x₁ x₂ (table r) (word r) (at_last x₂ zs.1.1.0)))) (id⊢ 𝓤 _) $ pick ! (λ zs. split ! $
            -- [the last values; E; the tokens and the result; the table's cell; …]
            fsplit ! $ drop ! $ fsplit ! $ drop ! $ fsplit ! $ fsplit ! $ fsplit ! $ move ! (1 ∷ []) $ feq_l ! (λ l. move ! (2 ∷ []) $ drop ! $ move ! (3 ∷ []) $ split ! $ move ! (1 ∷ []) $
            peeks ! (row R) (Is (row R)) (shows 𝓛 (row R)) r (v ∷ []) (λ is'. drop ! $
            -- [the tokens; the last list; the output's borrow; E; the table's cell (4); the open borrow; obs; auth; _8 (8); …; _7 (10); …; _6 (12); …; _5 (14); …; _4 (16); …; _3 (18); …; _2 (20); …; _1 (22); …; room for _0 (24); …]
            land ! (from ! (stop !)) (init ! 16 refl ((LL.lawful R LR 𝓛).typed r _ is').0) $ rewrite ! 16 (λ (u : Val). ‵ (fat full_share (layout (shape R)) l₄ 0 u)) (ap only (LL.tells R LR r (v ∷ []) is')) refl $
            assigns ! (of_opd ! (load ! (from ! (fld ! refl (stop !))) (look_in ! 16 (sub ! 0 refl (whole !))))) (from ! (stop !)) (init ! 8 refl ((LL.lawful T Lt 𝓛).typed (table r) _ (owed r v is').0).0) $
            assigns ! (of_opd ! (load ! (from ! (stop !)) (look ! 8 refl))) (from ! (hop ! (look ! 22 refl) (stop !))) (store_raw ! 4 refl ((LL.lawful T Lt 𝓛).typed (table r) _ (owed r v is').0).0) $
            assigns ! (of_opd ! (load ! (from ! (fld ! refl (stop !))) (look_in ! 16 (sub ! 1 refl (whole !))))) (from ! (stop !)) (init ! 24 refl (tt, record { fits = (owed r v is').1.0.1 })) $
            -- the borrow is closed at the new table
            move ! (4 ∷ 5 ∷ 6 ∷ 7 ∷ []) $ owned ! (row T) (Is (row T)) (LL.makes T PT 𝓛) (table r) _ (owed r v is').0 $ move ! (1 ∷ 0 ∷ []) $ closes ! tt (row T) (table r) (v_t (table r) ∷ []) b o $
            -- [obs; the borrow; κ; the tokens; the last list; the output's borrow; E; _8 (7); …; room for _0 (23); …]
            returns ! (look ! 23 refl) $ forget ! 7 refl $ forget ! 9 refl $ forget ! 11 refl $ forget ! 13 refl $ forget ! 15 refl $ forget ! 17 refl $ forget ! 19 refl $ forget ! 21 refl $ forget ! 23 refl $
            move ! (23 ∷ 24 ∷ []) $ free1 ! $ move ! (21 ∷ 22 ∷ []) $ free1 ! $ move ! (19 ∷ 20 ∷ []) $ free1 ! $ move ! (17 ∷ 18 ∷ []) $ free1 ! $ move ! (15 ∷ 16 ∷ []) $ free1 ! $ move ! (13 ∷ 14 ∷ []) $ free1 ! $ move ! (11 ∷ 12 ∷ []) $ free1 ! $ move ! (9 ∷ 10 ∷ []) $ free1 ! $ move ! (7 ∷ 8 ∷ []) $ free1 ! $ free0 ! $
            keep ! (0 ∷ 1 ∷ 2 ∷ 3 ∷ 4 ∷ 5 ∷ 6 ∷ []) $ by ! (exits r zs.1.1.0 (owed r v is').1.0 l)))))))))))))))))

    walks : (C : Calls 𝓤 H) (Λ : Loops 𝓤 H) (g : Callee) → FmC 𝓤 H 𝓛.laws C → Triple 𝓤 (C g) G → Walks 𝓛 ended_f stayed (WpFn 𝓤 H C Λ (fn g)) clauses_f
    walks C Λ g fm known = walked 𝓛 ended_f stayed clauses_f (WpFn 𝓤 H C Λ (fn g)) (λ κs. (mut_vals, (shr_slice_vals, (mut_slice_vals, tt))))
        (λ κs. (mut_Tells (named 0) κs.0 (row T), (shr_slice_Tells (named 1) κs.1.0 u8, (mut_slice_Tells (named 2) κs.1.1.0 u8, tt))))
        (λ κs qs bounds a _ are. walk κs.0 κs.1.0 κs.1.1.0 qs.0 qs.1.0 qs.1.1.0 a.0.ref_ptr.0 a.0.ref_ptr.1 a.0.ghost_name a.0.now a.1.0 a.1.1.0 C Λ g fm known are.1.0 are.1.1.0)

    pub thin : (𝓣 : Tables 𝓤 H) (g : Callee) → Triple 𝓤 (𝓣.C g) G → Meets 𝓛 ended_f.signature (WpFn 𝓤 H 𝓣.C 𝓣.Λ (fn g)) (closing 𝓛 ended_f clauses_f)
    thin 𝓣 g known =
        walk_Meets 𝓛 ended_f stayed
        (Goes-ref 𝓛 3 0 tt (plain (λ _. row T)), (Goes-dropped 𝓛 3 (shr_slice_of (1 ∷ []) tt (plain (λ _. u8))) yes (λ κs x f. refl), (Goes-gave_slice 𝓛 3 2 tt (plain (λ _. u8)), tt)))
        clauses_f (WpFn 𝓤 H 𝓣.C 𝓣.Λ (fn g)) (WpFn-mono 𝓤 H 𝓛.laws 𝓣 (fn g)) (walks 𝓣.C 𝓣.Λ g (fm_of 𝓤 H 𝓛.laws 𝓣) known)
