-- A struct lent by `&mut` to a function that stores what another makes of it by value, and a caller that lends a local to such a function.
-- Each walk is over any struct T of plain data and any contract that the function and its callee have in common.
--     stores0      `fn f(t: &mut T) { *t = g(*t); }`                              over `fn g(t: T) -> T`
--     lends0       `fn f(t: T) -> T { let mut x = t; g(&mut x); x }`              over `fn g(t: &mut T)`
--     stores2      `fn f(t: &mut T, m: N₁, n: N₂) { *t = g(*t, m, n); }`         over `fn g(t: T, m: N₁, n: N₂) -> T`, at any unsigned integer types N₁, N₂
--     lends2       `fn f(t: T, m: N₁, n: N₂) -> T { let mut x = t; g(&mut x, m, n); x }`     over `fn g(t: &mut T, m: N₁, n: N₂)`
-- The contract: `requires` is Q (the struct, the numbers), and `ensures` is E (the struct, the numbers, the struct at exit). Where g meets it, f does.
use mathlib.Core.Path.{◌≡◌, refl, sym, ap, subst}
use Prim.Native.Nat.{ℕ}
use mathlib.Core.List.{[], ◌∷◌, List}
use seplogic.Ra.Ura.{Ura}
use base.Fraction.{full_share}
use mir.Syntax.{Callee, Width, Fn, local, value_local, memory_slot, ty_int, ty_unit, ty_ref, mut, named, erased, place, deref, copy, opd_unit, rv_opd, addr_of, seq, assign, call, return}
use mir.Val.{Val, vint, vunit, vptr}
use base.Logic.{SProp, ent, id⊢, emp}
use base.Fml.{GName, Lft, Share, Fml, ftrue, fat, fsep, flft, fobs, fbor, flent}
use prog.Wp.{Calls, Loops, WpFn, Tables}
use types.Logic.{Logic, sem}
use types.Kit.{Item, ‵, raw, some, later, ◌⊛◌, ⋆, ◌$◌, ◌∵◌, !, qed, by, move, keep, drop, use0, use1, use2, use3, split, join, pick, rewrite, fsplit, fsplit3, fjoin, fjoin3, fpick, fpack, feq_i, suffices, frame, await, done}
use types.Run.{look, look_raw, init, store_raw, forget, stop, hop, from, load, addr, unit_lit, of_opd, and_then, no_more, assigns, land, returns, enter, alloc1, alloc0, params1, pass1, pass0, free1, free0}
use types.SemTy.{Body}
use types.Tokens.{lft_new, lft_end}
use sound.WpLaws.{FmC, fm_of, WpFn-mono}
use denote.RattleType.{owns}
use denote.Memory.{mem, part_of, cell_at, pointee}
use denote.Laws.{Is, shows}
use denote.Plain.{UInt, uint_Makes, uint_vals, uint_Tells, uint_Lawful, Nothing-Lawful}
use denote.Builtin.{unit}
use denote.Lend.{lends_ref, ref_back}
use denote.Ref.{MutBor, MutRef, mut_vals, mut_Tells}
use denote.Signature.{plain, mut_ref_to}
use denote.Steps.{only, opens, closes, owned, peeks, nothing}
use denote.Struct.Steps.{spelt}
use denote.Struct.Struct.{Plains, layout}
use denote.Struct.Declared.{Declared, fields, shape, row}
use denote.Struct.Laws as LL
use denote.Triple.Spec.{Meets, triple_of}
use denote.Triple.Statement.{Contract, Triple}
use denote.Triple.Call.{calls_at}
use denote.Triple.Clauses.{Ended, Clauses, Lasts, ensured, lasts, closing}
use denote.Triple.Walked.{Stays, stay_ref, stay_dropped, walk_of, Goes-ref, Goes-dropped, ends_at, walked, walk_Meets}
use denote.Exit.{yes, Exit, Last, left}

module _ (T : Declared) (Lt : LL.Laws T) (PT : Plains (fields T)) (CT : LL.Copyables T.parts) where
  abbrev v_t : T.D → Val
  v_t = LL.val T Lt

  -- a T that was passed by value is seen at exit as it was passed, and nothing is said of it
  last_T : (h : T.D) → Last ((row T).exit yes) h
  last_T h = subst (λ (e : Exit T.D). Last e h) (sym (LL.still T CT yes)) tt

  silent_T : (h : T.D) (f : Last ((row T).exit yes) h) → left ((row T).exit yes) h f ≡ ftrue
  silent_T h = subst (λ (e : Exit T.D). (f : Last e h) → left e h f ≡ ftrue) (sym (LL.still T CT yes)) (λ f. refl)

  -- a local that holds a T, as what a borrow holds, and back
  module _ {M : Type 1} {𝓤 : Ura M} (𝓛 : Logic 𝓤) (h : T.D) (l : ℕ) where
    lies_in : Is (row T) h (v_t h ∷ []) → ent 𝓤 (sem 𝓛 (fat full_share (layout (shape T)) l 0 (v_t h))) (sem 𝓛 ((mem (row T)).own_at h l 0))
    unfolding part_of
    lies_in is =
        qed 𝓛 (‵ (fat full_share (layout (shape T)) l 0 (v_t h)) ∷ []) ∵ use1 𝓛 (‵ (cell_at full_share (row T).mir (v_t h ∷ []) l 0)) (𝓛.laws.at_raw full_share (layout (shape T)) l 0 (v_t h)) $
        owned ! (row T) (Is (row T)) (LL.makes T PT 𝓛) h _ is $ move ! (1 ∷ 0 ∷ []) $ fjoin ! $ fpack ! (List Val) (λ us. fsep (cell_at full_share (row T).mir us l 0) ((row T).own_val h us)) (v_t h ∷ []) $ done !

    lies_out : ent 𝓤 (sem 𝓛 ((mem (row T)).own_at h l 0)) (⋆ 𝓛 (‵ ((row T).own_val h (v_t h ∷ [])) ∷ ‵ (fat full_share (layout (shape T)) l 0 (v_t h)) ∷ []))
    unfolding part_of
    lies_out =
        qed 𝓛 (‵ ((mem (row T)).own_at h l 0) ∷ []) ∵ fpick ! (λ vs. fsplit ! $ spelt ! (row T) (Is (row T)) (shows 𝓛 (row T)) (LL.vals T Lt) (LL.tells T Lt) full_share h vs l 0 $
        use1 𝓛 (‵ (fat full_share (layout (shape T)) l 0 (v_t h))) (𝓛.laws.raw_at full_share (layout (shape T)) l 0 (v_t h)) $ move ! (1 ∷ 0 ∷ []) $ frame ! $ done !)

  -- ---- no number
  abbrev pub fn0 : Callee → Fn
  fn0 g = record {
    lifetimes = 1;
    outlives = [];
    ty_params = [];
    givens = 0;
    params = 1;
    locals = local ty_unit value_local ∷ local (ty_ref (named 0) mut (pointee (row T).written)) value_local ∷ local (layout (shape T)) value_local ∷ local (layout (shape T)) value_local ∷ [];
    body = seq (assign (place 3 []) (rv_opd (copy (place 1 (deref (layout (shape T)) ∷ [])))))
        (seq (call g (copy (place 3 []) ∷ []) (place 2 []))
        (seq (assign (place 1 (deref (layout (shape T)) ∷ [])) (rv_opd (copy (place 2 []))))
        (seq (assign (place 0 []) (rv_opd opd_unit)) return)));
  }

  abbrev pub lent0 : Ended
  lent0 = record { signature = record { lifetimes = 1; outlives = []; params = mut_ref_to (0 ∷ []) tt (plain (λ _. row T)) ∷ []; result = plain (λ _. unit) }; kept = (yes, tt) }

  abbrev pub valued0 : Ended
  valued0 = record { signature = record { lifetimes = 0; outlives = []; params = plain (λ _. row T) ∷ []; result = plain (λ _. row T) }; kept = (yes, tt) }

  abbrev stayed0 : Stays lent0.signature.params lent0.kept
  stayed0 = (stay_ref (0 ∷ []) tt (plain (λ _. row T)), tt)

  -- the caller: it lends a local
  abbrev pub fnl0 : Callee → Fn
  fnl0 g = record {
    lifetimes = 0;
    outlives = [];
    ty_params = [];
    givens = 0;
    params = 1;
    locals = local (layout (shape T)) value_local ∷ local (layout (shape T)) value_local ∷ local (layout (shape T)) memory_slot ∷ local ty_unit value_local ∷ local (ty_ref erased mut (pointee (row T).written)) value_local ∷ [];
    body = seq (assign (place 2 []) (rv_opd (copy (place 1 []))))
        (seq (assign (place 4 []) (addr_of (place 2 [])))
        (seq (call g (copy (place 4 []) ∷ []) (place 3 []))
        (seq (assign (place 0 []) (rv_opd (copy (place 2 [])))) return)));
  }

  abbrev stayedl0 : Stays valued0.signature.params valued0.kept
  stayedl0 = (stay_dropped (plain (λ _. row T)) yes, tt)

  module _ {M : Type 1} {𝓤 : Ura M} (𝓛 : Logic 𝓤) (Q : T.D → SProp 𝓤) (E : T.D → T.D → SProp 𝓤) where
    open 𝓛 use {H}

    abbrev pub lent0_clauses : Clauses 𝓤 lent0
    lent0_clauses κs a = record { ghost = Unit {0}; requires = λ _. Q a.0.now; ensures = λ _ r e. E a.0.now e.0.now }

    abbrev pub valued0_clauses : Clauses 𝓤 valued0
    valued0_clauses κs a = record { ghost = Unit {0}; requires = λ _. Q a.0; ensures = λ _ r e. E a.0 r }

    abbrev pub V0 : Contract 𝓤
    V0 = triple_of 𝓛 valued0.signature (closing 𝓛 valued0 valued0_clauses)

    abbrev pub L0 : Contract 𝓤
    L0 = triple_of 𝓛 lent0.signature (closing 𝓛 lent0 lent0_clauses)

    module _ (κ : Lft) (q : Share) (b o : ℕ) (γ : GName) (h : T.D) where
      abbrev a0 : MutBor T.D × Unit {0}
      a0 = (record { ref_ptr = (b, o); ghost_name = γ; now = h }, tt)

      abbrev Post0 : Val → SProp 𝓤
      Post0 = (walk_of 𝓛 lent0 stayed0 lent0_clauses).post (((κ, tt), (q, tt), tt, a0, (vptr b o ∷ [], tt)), tt)

      abbrev to0 : V0.Ghost
      to0 = ((tt, tt, tt, (h, tt), (v_t h ∷ [], tt)), tt)

      goes0 : Is (row T) h (v_t h ∷ []) → ent 𝓤 (Q h) (V0.pre to0)
      goes0 is = qed 𝓛 (raw (Q h) ∷ []) ∵ nothing ! $ owned ! (row T) (Is (row T)) (LL.makes T PT 𝓛) h _ is $ fjoin ! $ nothing ! $ join ! $ frame ! $ done !

      abbrev Left0 : T.D → List (Item 𝓤)
      Left0 r = ‵ (fobs γ ((row T).coded.code r)) ∷ ‵ (fbor κ (Body (mem (row T)) b o γ)) ∷ ‵ (flft κ q) ∷ raw (E h r) ∷ []

      exits0 : (r : T.D) → ent 𝓤 (⋆ 𝓛 (Left0 r)) (Post0 vunit)
      exits0 r =
          qed 𝓛 (Left0 r) ∵ suffices ! _ (ends_at 𝓛 lent0 stayed0 lent0_clauses (((κ, tt), (q, tt), tt, a0, (vptr b o ∷ [], tt)), tt) vunit tt (r, tt) (tt, tt)) $
          feq_i ! (List Val) (vptr b o ∷ []) (vptr b o ∷ []) refl $ fjoin3 ! $ nothing ! $ move ! (1 ∷ 0 ∷ []) $ fjoin ! $
          -- [what t owns; the token; E]
          feq_i ! (List Val) (vunit ∷ []) (vunit ∷ []) refl $ move ! (1 ∷ 0 ∷ []) $ join ! $ nothing ! $ move ! (2 ∷ 0 ∷ []) $ join ! $ join ! $ frame ! $ done !

      module _ (C : Calls 𝓤 H) (Λ : Loops 𝓤 H) (g : Callee) (fm : FmC 𝓤 H 𝓛.laws C) (known : Triple 𝓤 (C g) V0) where
        walk0 : ent 𝓤 (⋆ 𝓛 (((‵ (flft κ q) ⊛ ‵ ftrue) ⊛ ‵ (owns (MutRef (named 0) κ (row T) ∷ []) a0 (vptr b o ∷ [], tt))) ∷ raw (Q h) ∷ [])) (WpFn 𝓤 H C Λ (fn0 g) (vptr b o ∷ []) Post0)
        walk0 =
            qed 𝓛 (((‵ (flft κ q) ⊛ ‵ ftrue) ⊛ ‵ (owns (MutRef (named 0) κ (row T) ∷ []) a0 (vptr b o ∷ [], tt))) ∷ raw (Q h) ∷ []) ∵ split ! $ enter ! C Λ (fn0 g) (vptr b o ∷ []) _ $
            alloc1 ! (λ l₀. alloc1 ! (λ l₁. alloc1 ! (λ l₂. alloc1 ! (λ l₃. alloc0 ! $ params1 ! $ pass1 ! (init ! 4 refl (tt, tt)) $ pass0 ! $
            -- [_3; …; _2; …; _1; …; room for _0; …; the token (8); what t owns (9); Q (10)]: the borrow is opened
            move ! (9 ∷ []) $ fsplit ! $ fsplit3 ! $ drop ! $ move ! (11 ∷ []) $ split ! $ move ! (2 ∷ 3 ∷ 0 ∷ []) $
            opens ! tt (row T) {h = h} b o (λ vs. spelt ! (row T) (Is (row T)) (shows 𝓛 (row T)) (LL.vals T Lt) (LL.tells T Lt) full_share h vs b o $
            move ! (1 ∷ []) $ peeks ! (row T) (Is (row T)) (shows 𝓛 (row T)) h (v_t h ∷ []) (λ is. drop ! $
            -- [the cell; the open borrow; obs; auth; true; true; _3 (6); …; _2 (8); …; _1 (10); …; room for _0 (12); …; Q (14)]
            assigns ! (of_opd ! (load ! (from ! (hop ! (look ! 10 refl) (stop !))) (look_raw ! 0 refl))) (from ! (stop !)) (init ! 6 refl ((LL.lawful T Lt 𝓛).typed h _ is).0) $
            move ! (14 ∷ []) $ use1 𝓛 (raw (V0.pre to0)) (goes0 is) $
            calls_at ! fm V0 known to0 (and_then ! (load ! (from ! (stop !)) (look ! 7 refl)) (no_more !)) (λ v.
            use1 𝓛 (later (some (λ (r : T.D). (‵ ftrue ⊛ ‵ ((row T).own_val r (v ∷ []))) ⊛ raw (ensured 𝓛 valued0 valued0_clauses tt (h, tt) tt r)))) (id⊢ 𝓤 _) $ await ! tt $ pick ! (λ r. split ! $ move ! (1 ∷ []) $
            use1 𝓛 (some (λ (zs : Lasts valued0 tt (h, tt)). ‵ (lasts valued0 tt (h, tt) zs) ⊛ raw (E h r))) (id⊢ 𝓤 _) $ pick ! (λ zs. split ! $ drop ! $ move ! (1 ∷ []) $ split ! $ drop ! $
            peeks ! (row T) (Is (row T)) (shows 𝓛 (row T)) r (v ∷ []) (λ is'. rewrite ! 0 (λ (us : List Val). ‵ ((row T).own_val r us)) (LL.tells T Lt r (v ∷ []) is') refl $
            -- [what r owns; E; the cell (2); the open borrow; obs; auth; true; true; _3 (8); …; _2 (10); …; _1 (12); …; room for _0 (14); …]
            land ! (from ! (stop !)) (init ! 10 refl ((LL.lawful T Lt 𝓛).typed r _ is').0) $ rewrite ! 10 (λ (u : Val). ‵ (fat full_share (layout (shape T)) l₂ 0 u)) (ap only (LL.tells T Lt r (v ∷ []) is')) refl $
            peeks ! (row T) (Is (row T)) (shows 𝓛 (row T)) r (v_t r ∷ []) (λ is''.
            assigns ! (of_opd ! (load ! (from ! (stop !)) (look ! 10 refl))) (from ! (hop ! (look ! 12 refl) (stop !))) (store_raw ! 2 refl ((LL.lawful T Lt 𝓛).typed r _ is'').0) $
            assigns ! (of_opd ! (unit_lit !)) (from ! (stop !)) (init ! 14 refl (tt, tt)) $
            -- the borrow is closed at r
            move ! (2 ∷ 0 ∷ 3 ∷ 4 ∷ 5 ∷ []) $ closes ! tt (row T) r (v_t r ∷ []) b o $
            -- [obs; the borrow; the token; E; true; true; _3 (6); …; room for _0 (12); …]
            returns ! (look ! 12 refl) $ forget ! 6 refl $ forget ! 8 refl $ forget ! 10 refl $ forget ! 12 refl $
            move ! (12 ∷ 13 ∷ []) $ free1 ! $ move ! (10 ∷ 11 ∷ []) $ free1 ! $ move ! (8 ∷ 9 ∷ []) $ free1 ! $ move ! (6 ∷ 7 ∷ []) $ free1 ! $ free0 ! $
            keep ! (0 ∷ 1 ∷ 2 ∷ 3 ∷ []) $ by ! (exits0 r))))))))))))

    -- the caller
    module _ (h : T.D) (is : Is (row T) h (v_t h ∷ [])) where
      abbrev Postl0 : Val → SProp 𝓤
      Postl0 = (walk_of 𝓛 valued0 stayedl0 valued0_clauses).post ((tt, tt, tt, (h, tt), (v_t h ∷ [], tt)), tt)

      -- what g's triple binds outside: the local at l, lent for the lifetime α under the name δ
      abbrev tol0 : ℕ → ℕ → GName → L0.Ghost
      tol0 α l δ = (((α ∷ [], tt), (full_share, tt), tt, a0 (α ∷ []) full_share l 0 δ h, (vptr l 0 ∷ [], tt)), tt)

      goesl0 : (α l : ℕ) (δ : GName) → ent 𝓤 (⋆ 𝓛 (‵ (flft (α ∷ []) full_share) ∷ ‵ ((MutRef (named 0) (α ∷ []) (row T)).own_val (record { ref_ptr = (l, 0); ghost_name = δ; now = h }) (vptr l 0 ∷ [])) ∷ raw (Q h) ∷ [])) (L0.pre (tol0 α l δ))
      goesl0 α l δ =
          qed 𝓛 (‵ (flft (α ∷ []) full_share) ∷ ‵ ((MutRef (named 0) (α ∷ []) (row T)).own_val (record { ref_ptr = (l, 0); ghost_name = δ; now = h }) (vptr l 0 ∷ [])) ∷ raw (Q h) ∷ []) ∵
          nothing ! $ move ! (2 ∷ 0 ∷ []) $ fjoin ! $ nothing ! $ move ! (2 ∷ 0 ∷ []) $ join ! $ join ! $ frame ! $ done !

      exitsl0 : (r : T.D) → ent 𝓤 (⋆ 𝓛 (‵ ((row T).own_val r (v_t r ∷ [])) ∷ raw (E h r) ∷ [])) (Postl0 (v_t r))
      exitsl0 r =
          qed 𝓛 (‵ ((row T).own_val r (v_t r ∷ [])) ∷ raw (E h r) ∷ []) ∵
          suffices ! _ (ends_at 𝓛 valued0 stayedl0 valued0_clauses ((tt, tt, tt, (h, tt), (v_t h ∷ [], tt)), tt) (v_t r) r (last_T h, tt) (tt, tt)) $
          nothing ! $ nothing ! $ fjoin ! $ join ! $ nothing ! $ join ! $ frame ! $ done !

      module _ (C : Calls 𝓤 H) (Λ : Loops 𝓤 H) (g : Callee) (fm : FmC 𝓤 H 𝓛.laws C) (known : Triple 𝓤 (C g) L0) where
        walkl0 : ent 𝓤 (⋆ 𝓛 ((‵ ftrue ⊛ ‵ (owns (row T ∷ []) (h, tt) (v_t h ∷ [], tt))) ∷ raw (Q h) ∷ [])) (WpFn 𝓤 H C Λ (fnl0 g) (v_t h ∷ []) Postl0)
        walkl0 =
            qed 𝓛 ((‵ ftrue ⊛ ‵ (owns (row T ∷ []) (h, tt) (v_t h ∷ [], tt))) ∷ raw (Q h) ∷ []) ∵ split ! $ drop ! $ drop ! $ enter ! C Λ (fnl0 g) (v_t h ∷ []) _ $
            alloc1 ! (λ l₀. alloc1 ! (λ l₁. alloc1 ! (λ l₂. alloc1 ! (λ l₃. alloc1 ! (λ l₄. alloc0 ! $ params1 ! $ pass1 ! (init ! 6 refl ((LL.lawful T Lt 𝓛).typed h _ is).0) $ pass0 ! $
            -- [_4 (0); …; _3 (2); …; _2 (4); …; _1 (6); …; room for _0 (8); …; Q (10)]
            assigns ! (of_opd ! (load ! (from ! (stop !)) (look ! 6 refl))) (from ! (stop !)) (init ! 4 refl ((LL.lawful T Lt 𝓛).typed h _ is).0) $
            assigns ! (addr ! (from ! (stop !))) (from ! (stop !)) (init ! 0 refl (tt, tt)) $
            -- x is lent for a new lifetime α
            move ! (4 ∷ []) $ use1 𝓛 (‵ ((mem (row T)).own_at h l₂ 0)) (lies_in 𝓛 h l₂ is) $ lft_new ! tt (λ α. move ! (1 ∷ []) $
            use1 𝓛 (later (some (λ (δ : GName). ‵ ((MutRef (named 0) (α ∷ []) (row T)).own_val (record { ref_ptr = (l₂, 0); ghost_name = δ; now = h }) (vptr l₂ 0 ∷ [])) ⊛ ‵ (flent (α ∷ []) (Body (mem (row T)) l₂ 0 δ))))) (lends_ref 𝓛 (row T) (named 0) (α ∷ []) h l₂ 0) $ await ! tt $ pick ! (λ δ. split ! $
            -- [the reference; the lender's part; the token; _4 (3); …; _3 (5); …; what frees _2 (7); _1 (8); …; room for _0 (10); …; Q (12)]
            move ! (2 ∷ 0 ∷ 12 ∷ []) $ use3 𝓛 (raw (L0.pre (tol0 α l₂ δ))) (goesl0 α l₂ δ) $
            -- [what the callee asks; the lender's part; _4 (2); …; _3 (4); …; what frees _2 (6); _1 (7); …; room for _0 (9); …]
            calls_at ! fm L0 known (tol0 α l₂ δ) (and_then ! (load ! (from ! (stop !)) (look ! 2 refl)) (no_more !)) (λ v.
            use1 𝓛 (later (some (λ (r : unit.Denot). ((‵ (flft (α ∷ []) full_share) ⊛ ‵ ftrue) ⊛ ‵ (unit.own_val r (v ∷ []))) ⊛ raw (ensured 𝓛 lent0 lent0_clauses (α ∷ [], tt) (a0 (α ∷ []) full_share l₂ 0 δ h) tt r)))) (id⊢ 𝓤 _) $ await ! tt $ pick ! (λ r. split ! $ move ! (1 ∷ []) $
            use1 𝓛 (some (λ (zs : Lasts lent0 (α ∷ [], tt) (a0 (α ∷ []) full_share l₂ 0 δ h)). ‵ (lasts lent0 (α ∷ [], tt) (a0 (α ∷ []) full_share l₂ 0 δ h) zs) ⊛ raw (E h zs.0))) (id⊢ 𝓤 _) $ pick ! (λ zs. split ! $ fsplit ! $ move ! (1 ∷ []) $ drop ! $ fsplit ! $ move ! (1 ∷ []) $ drop ! $
            -- [the last value; E; the token and the result; the lender's part; …]
            move ! (2 ∷ []) $ split ! $ move ! (1 ∷ []) $ peeks ! unit (Is unit) (shows 𝓛 unit) r (v ∷ []) (λ is'. drop ! $
            -- [the token; the last value; E; the lender's part; _4 (4); …; _3 (6); …; what frees _2 (8); _1 (9); …; room for _0 (11); …]
            land ! (from ! (stop !)) (init ! 6 refl ((Nothing-Lawful 𝓛).typed r _ is').0) $
            -- the lifetime is ended, and x is taken back at its last value
            split ! $ lft_end ! tt $ move ! (0 ∷ 4 ∷ 2 ∷ []) $ use3 𝓛 (later (‵ ((mem (row T)).own_at zs.0 l₂ 0))) (ref_back 𝓛 (row T) (α ∷ []) δ zs.0 l₂ 0) $ await ! tt $
            use1 𝓛 (‵ ((row T).own_val zs.0 (v_t zs.0 ∷ [])) ⊛ ‵ (fat full_share (layout (shape T)) l₂ 0 (v_t zs.0))) (lies_out 𝓛 zs.0 l₂) $ split ! $
            peeks ! (row T) (Is (row T)) (shows 𝓛 (row T)) zs.0 (v_t zs.0 ∷ []) (λ is''.
            -- [what x owns; _2; true; E; _4 (4); …; _3 (6); …; what frees _2 (8); _1 (9); …; room for _0 (11); …]
            assigns ! (of_opd ! (load ! (from ! (stop !)) (look ! 1 refl))) (from ! (stop !)) (init ! 11 refl ((LL.lawful T Lt 𝓛).typed zs.0 _ is'').0) $
            returns ! (look ! 11 refl) $ forget ! 1 refl $ forget ! 4 refl $ forget ! 6 refl $ forget ! 9 refl $ forget ! 11 refl $
            move ! (11 ∷ 12 ∷ []) $ free1 ! $ move ! (9 ∷ 10 ∷ []) $ free1 ! $ move ! (1 ∷ 8 ∷ []) $ free1 ! $ move ! (5 ∷ 6 ∷ []) $ free1 ! $ move ! (3 ∷ 4 ∷ []) $ free1 ! $ free0 ! $
            keep ! (0 ∷ 2 ∷ []) $ by ! (exitsl0 zs.0)))))))))))))

    pub stores0 : (𝓣 : Tables 𝓤 H) (g : Callee) → Triple 𝓤 (𝓣.C g) V0 → Meets 𝓛 lent0.signature (WpFn 𝓤 H 𝓣.C 𝓣.Λ (fn0 g)) (closing 𝓛 lent0 lent0_clauses)
    stores0 𝓣 g known =
        walk_Meets 𝓛 lent0 stayed0 (Goes-ref 𝓛 1 0 tt (plain (λ _. row T)), tt) lent0_clauses (WpFn 𝓤 H 𝓣.C 𝓣.Λ (fn0 g)) (WpFn-mono 𝓤 H 𝓛.laws 𝓣 (fn0 g))
        (walked 𝓛 lent0 stayed0 lent0_clauses (WpFn 𝓤 H 𝓣.C 𝓣.Λ (fn0 g)) (λ κs. (mut_vals, tt)) (λ κs. (mut_Tells (named 0) κs.0 (row T), tt))
        (λ κs qs bounds a _ are. walk0 κs.0 qs.0 a.0.ref_ptr.0 a.0.ref_ptr.1 a.0.ghost_name a.0.now 𝓣.C 𝓣.Λ g (fm_of 𝓤 H 𝓛.laws 𝓣) known))

    pub lends0 : (𝓣 : Tables 𝓤 H) (g : Callee) → Triple 𝓤 (𝓣.C g) L0 → Meets 𝓛 valued0.signature (WpFn 𝓤 H 𝓣.C 𝓣.Λ (fnl0 g)) (closing 𝓛 valued0 valued0_clauses)
    lends0 𝓣 g known =
        walk_Meets 𝓛 valued0 stayedl0 (Goes-dropped 𝓛 0 (plain (λ _. row T)) yes (λ κs x f. silent_T x f), tt) valued0_clauses (WpFn 𝓤 H 𝓣.C 𝓣.Λ (fnl0 g)) (WpFn-mono 𝓤 H 𝓛.laws 𝓣 (fnl0 g))
        (walked 𝓛 valued0 stayedl0 valued0_clauses (WpFn 𝓤 H 𝓣.C 𝓣.Λ (fnl0 g)) (λ κs. (LL.vals T Lt, tt)) (λ κs. (LL.tells T Lt, tt))
        (λ κs qs bounds a _ are. walkl0 a.0 are.0 𝓣.C 𝓣.Λ g (fm_of 𝓤 H 𝓛.laws 𝓣) known))

  -- ---- two numbers
  module _ (w₁ w₂ : Width) where
    abbrev pub fn2 : Callee → Fn
    fn2 g = record {
      lifetimes = 1;
      outlives = [];
      ty_params = [];
      givens = 0;
      params = 3;
      locals = local ty_unit value_local ∷ local (ty_ref (named 0) mut (pointee (row T).written)) value_local ∷ local (ty_int w₁) value_local ∷ local (ty_int w₂) value_local ∷ local (layout (shape T)) value_local ∷ local (layout (shape T)) value_local ∷ [];
      body = seq (assign (place 5 []) (rv_opd (copy (place 1 (deref (layout (shape T)) ∷ [])))))
          (seq (call g (copy (place 5 []) ∷ copy (place 2 []) ∷ copy (place 3 []) ∷ []) (place 4 []))
          (seq (assign (place 1 (deref (layout (shape T)) ∷ [])) (rv_opd (copy (place 4 []))))
          (seq (assign (place 0 []) (rv_opd opd_unit)) return)));
    }

    abbrev pub lent2 : Ended
    lent2 = record { signature = record { lifetimes = 1; outlives = []; params = mut_ref_to (0 ∷ []) tt (plain (λ _. row T)) ∷ plain (λ _. UInt w₁) ∷ plain (λ _. UInt w₂) ∷ []; result = plain (λ _. unit) }; kept = (yes, (yes, (yes, tt))) }

    abbrev pub valued2 : Ended
    valued2 = record { signature = record { lifetimes = 0; outlives = []; params = plain (λ _. row T) ∷ plain (λ _. UInt w₁) ∷ plain (λ _. UInt w₂) ∷ []; result = plain (λ _. row T) }; kept = (yes, (yes, (yes, tt))) }

    abbrev stayed2 : Stays lent2.signature.params lent2.kept
    stayed2 = (stay_ref (0 ∷ []) tt (plain (λ _. row T)), (stay_dropped (plain (λ _. UInt w₁)) yes, (stay_dropped (plain (λ _. UInt w₂)) yes, tt)))

    -- the caller: it lends a local
    abbrev pub fnl : Callee → Fn
    fnl g = record {
      lifetimes = 0;
      outlives = [];
      ty_params = [];
      givens = 0;
      params = 3;
      locals = local (layout (shape T)) value_local ∷ local (layout (shape T)) value_local ∷ local (ty_int w₁) value_local ∷ local (ty_int w₂) value_local ∷ local (layout (shape T)) memory_slot ∷ local ty_unit value_local ∷ local (ty_ref erased mut (pointee (row T).written)) value_local ∷ [];
      body = seq (assign (place 4 []) (rv_opd (copy (place 1 []))))
          (seq (assign (place 6 []) (addr_of (place 4 [])))
          (seq (call g (copy (place 6 []) ∷ copy (place 2 []) ∷ copy (place 3 []) ∷ []) (place 5 []))
          (seq (assign (place 0 []) (rv_opd (copy (place 4 [])))) return)));
    }

    abbrev stayedl : Stays valued2.signature.params valued2.kept
    stayedl = (stay_dropped (plain (λ _. row T)) yes, (stay_dropped (plain (λ _. UInt w₁)) yes, (stay_dropped (plain (λ _. UInt w₂)) yes, tt)))

    module _ {M : Type 1} {𝓤 : Ura M} (𝓛 : Logic 𝓤) (Q : T.D → ℕ → ℕ → SProp 𝓤) (E : T.D → ℕ → ℕ → T.D → SProp 𝓤) where
      open 𝓛 use {H}

      abbrev pub lent2_clauses : Clauses 𝓤 lent2
      lent2_clauses κs a = record { ghost = Unit {0}; requires = λ _. Q a.0.now a.1.0 a.1.1.0; ensures = λ _ r e. E a.0.now a.1.0 a.1.1.0 e.0.now }

      abbrev pub valued2_clauses : Clauses 𝓤 valued2
      valued2_clauses κs a = record { ghost = Unit {0}; requires = λ _. Q a.0 a.1.0 a.1.1.0; ensures = λ _ r e. E a.0 a.1.0 a.1.1.0 r }

      abbrev pub V2 : Contract 𝓤
      V2 = triple_of 𝓛 valued2.signature (closing 𝓛 valued2 valued2_clauses)

      abbrev pub L2 : Contract 𝓤
      L2 = triple_of 𝓛 lent2.signature (closing 𝓛 lent2 lent2_clauses)

      module _ (n₁ n₂ : ℕ) (fits₁ : Is (UInt w₁) n₁ (vint w₁ n₁ ∷ [])) (fits₂ : Is (UInt w₂) n₂ (vint w₂ n₂ ∷ [])) where
        abbrev Numbers : Fml
        Numbers = owns (UInt w₁ ∷ UInt w₂ ∷ []) (n₁, (n₂, tt)) (vint w₁ n₁ ∷ [], (vint w₂ n₂ ∷ [], tt))

        numbers : ent 𝓤 (emp 𝓤) (sem 𝓛 Numbers)
        numbers = qed 𝓛 [] ∵ nothing ! $ owned ! (UInt w₂) (Is (UInt w₂)) (uint_Makes 𝓛 w₂) n₂ _ fits₂ $ fjoin ! $ owned ! (UInt w₁) (Is (UInt w₁)) (uint_Makes 𝓛 w₁) n₁ _ fits₁ $ fjoin ! $ done !

        module _ (κ : Lft) (q : Share) (b o : ℕ) (γ : GName) (h : T.D) where
          abbrev a2 : MutBor T.D × (ℕ × (ℕ × Unit {0}))
          a2 = (record { ref_ptr = (b, o); ghost_name = γ; now = h }, (n₁, (n₂, tt)))

          abbrev vals2 : List Val × (List Val × (List Val × Unit {0}))
          vals2 = (vptr b o ∷ [], (vint w₁ n₁ ∷ [], (vint w₂ n₂ ∷ [], tt)))

          abbrev Post2 : Val → SProp 𝓤
          Post2 = (walk_of 𝓛 lent2 stayed2 lent2_clauses).post (((κ, tt), (q, tt), tt, a2, vals2), tt)

          abbrev to2 : V2.Ghost
          to2 = ((tt, tt, tt, (h, (n₁, (n₂, tt))), (v_t h ∷ [], (vint w₁ n₁ ∷ [], (vint w₂ n₂ ∷ [], tt)))), tt)

          goes2 : Is (row T) h (v_t h ∷ []) → ent 𝓤 (⋆ 𝓛 (‵ Numbers ∷ raw (Q h n₁ n₂) ∷ [])) (V2.pre to2)
          goes2 is = qed 𝓛 (‵ Numbers ∷ raw (Q h n₁ n₂) ∷ []) ∵ owned ! (row T) (Is (row T)) (LL.makes T PT 𝓛) h _ is $ fjoin ! $ nothing ! $ join ! $ frame ! $ done !

          abbrev Left2 : T.D → List (Item 𝓤)
          Left2 r = ‵ (fobs γ ((row T).coded.code r)) ∷ ‵ (fbor κ (Body (mem (row T)) b o γ)) ∷ ‵ (flft κ q) ∷ raw (E h n₁ n₂ r) ∷ []

          exits2 : (r : T.D) → ent 𝓤 (⋆ 𝓛 (Left2 r)) (Post2 vunit)
          exits2 r =
              qed 𝓛 (Left2 r) ∵ suffices ! _ (ends_at 𝓛 lent2 stayed2 lent2_clauses (((κ, tt), (q, tt), tt, a2, vals2), tt) vunit tt (r, (tt, (tt, tt))) (tt, (tt, (tt, tt)))) $
              feq_i ! (List Val) (vptr b o ∷ []) (vptr b o ∷ []) refl $ fjoin3 ! $ nothing ! $ nothing ! $ fjoin ! $ nothing ! $ fjoin ! $ move ! (1 ∷ 0 ∷ []) $ fjoin ! $
              -- [what is had of the parameters; the token; E]
              feq_i ! (List Val) (vunit ∷ []) (vunit ∷ []) refl $ move ! (1 ∷ 0 ∷ []) $ join ! $ nothing ! $ move ! (2 ∷ 0 ∷ []) $ join ! $ join ! $ frame ! $ done !

          module _ (C : Calls 𝓤 H) (Λ : Loops 𝓤 H) (g : Callee) (fm : FmC 𝓤 H 𝓛.laws C) (known : Triple 𝓤 (C g) V2) where
            walk2 : ent 𝓤 (⋆ 𝓛 (((‵ (flft κ q) ⊛ ‵ ftrue) ⊛ ‵ (owns (MutRef (named 0) κ (row T) ∷ UInt w₁ ∷ UInt w₂ ∷ []) a2 vals2)) ∷ raw (Q h n₁ n₂) ∷ [])) (WpFn 𝓤 H C Λ (fn2 g) (vptr b o ∷ vint w₁ n₁ ∷ vint w₂ n₂ ∷ []) Post2)
            walk2 =
                qed 𝓛 (((‵ (flft κ q) ⊛ ‵ ftrue) ⊛ ‵ (owns (MutRef (named 0) κ (row T) ∷ UInt w₁ ∷ UInt w₂ ∷ []) a2 vals2)) ∷ raw (Q h n₁ n₂) ∷ []) ∵ split ! $ enter ! C Λ (fn2 g) (vptr b o ∷ vint w₁ n₁ ∷ vint w₂ n₂ ∷ []) _ $
                alloc1 ! (λ l₀. alloc1 ! (λ l₁. alloc1 ! (λ l₂. alloc1 ! (λ l₃. alloc1 ! (λ l₄. alloc1 ! (λ l₅. alloc0 ! $ params1 ! $ pass1 ! (init ! 8 refl (tt, tt)) $ pass1 ! (init ! 6 refl ((uint_Lawful 𝓛 w₁).typed n₁ _ fits₁).0) $ pass1 ! (init ! 4 refl ((uint_Lawful 𝓛 w₂).typed n₂ _ fits₂).0) $ pass0 ! $
                -- [_5; …; _4; …; _3; …; _2; …; _1; …; room for _0; …; the token (12); what the parameters own (13); Q (14)]: the borrow is opened
                move ! (13 ∷ []) $ fsplit ! $ fsplit3 ! $ drop ! $ move ! (15 ∷ []) $ split ! $ move ! (2 ∷ 3 ∷ 0 ∷ []) $
                opens ! tt (row T) {h = h} b o (λ vs. spelt ! (row T) (Is (row T)) (shows 𝓛 (row T)) (LL.vals T Lt) (LL.tells T Lt) full_share h vs b o $
                move ! (1 ∷ []) $ peeks ! (row T) (Is (row T)) (shows 𝓛 (row T)) h (v_t h ∷ []) (λ is. drop ! $
                -- [the cell; the open borrow; obs; auth; true; the numbers (5); _5 (6); …; _4 (8); …; _3 (10); …; _2 (12); …; _1 (14); …; room for _0 (16); …; Q (18)]
                assigns ! (of_opd ! (load ! (from ! (hop ! (look ! 14 refl) (stop !))) (look_raw ! 0 refl))) (from ! (stop !)) (init ! 6 refl ((LL.lawful T Lt 𝓛).typed h _ is).0) $
                move ! (5 ∷ 18 ∷ []) $ use2 𝓛 (raw (V2.pre to2)) (goes2 is) $
                -- [what the callee asks; the cell; the open borrow; obs; auth; true; _5 (6); …; _4 (8); …; _3 (10); …; _2 (12); …]
                calls_at ! fm V2 known to2 (and_then ! (load ! (from ! (stop !)) (look ! 6 refl)) (and_then ! (load ! (from ! (stop !)) (look ! 12 refl)) (and_then ! (load ! (from ! (stop !)) (look ! 10 refl)) (no_more !)))) (λ v.
                use1 𝓛 (later (some (λ (r : T.D). (‵ ftrue ⊛ ‵ ((row T).own_val r (v ∷ []))) ⊛ raw (ensured 𝓛 valued2 valued2_clauses tt (h, (n₁, (n₂, tt))) tt r)))) (id⊢ 𝓤 _) $ await ! tt $ pick ! (λ r. split ! $ move ! (1 ∷ []) $
                use1 𝓛 (some (λ (zs : Lasts valued2 tt (h, (n₁, (n₂, tt)))). ‵ (lasts valued2 tt (h, (n₁, (n₂, tt))) zs) ⊛ raw (E h n₁ n₂ r))) (id⊢ 𝓤 _) $ pick ! (λ zs. split ! $ drop ! $ move ! (1 ∷ []) $ split ! $ drop ! $
                peeks ! (row T) (Is (row T)) (shows 𝓛 (row T)) r (v ∷ []) (λ is'. rewrite ! 0 (λ (us : List Val). ‵ ((row T).own_val r us)) (LL.tells T Lt r (v ∷ []) is') refl $
                -- [what r owns; E; the cell (2); the open borrow; obs; auth; true; _5 (7); …; _4 (9); …; _3 (11); …; _2 (13); …; _1 (15); …; room for _0 (17); …]
                land ! (from ! (stop !)) (init ! 9 refl ((LL.lawful T Lt 𝓛).typed r _ is').0) $ rewrite ! 9 (λ (u : Val). ‵ (fat full_share (layout (shape T)) l₄ 0 u)) (ap only (LL.tells T Lt r (v ∷ []) is')) refl $
                peeks ! (row T) (Is (row T)) (shows 𝓛 (row T)) r (v_t r ∷ []) (λ is''.
                assigns ! (of_opd ! (load ! (from ! (stop !)) (look ! 9 refl))) (from ! (hop ! (look ! 15 refl) (stop !))) (store_raw ! 2 refl ((LL.lawful T Lt 𝓛).typed r _ is'').0) $
                assigns ! (of_opd ! (unit_lit !)) (from ! (stop !)) (init ! 17 refl (tt, tt)) $
                -- the borrow is closed at r
                move ! (2 ∷ 0 ∷ 3 ∷ 4 ∷ 5 ∷ []) $ closes ! tt (row T) r (v_t r ∷ []) b o $
                -- [obs; the borrow; the token; E; true; _5 (5); …; room for _0 (15); …]
                returns ! (look ! 15 refl) $ forget ! 5 refl $ forget ! 7 refl $ forget ! 9 refl $ forget ! 11 refl $ forget ! 13 refl $ forget ! 15 refl $
                move ! (15 ∷ 16 ∷ []) $ free1 ! $ move ! (13 ∷ 14 ∷ []) $ free1 ! $ move ! (11 ∷ 12 ∷ []) $ free1 ! $ move ! (9 ∷ 10 ∷ []) $ free1 ! $ move ! (7 ∷ 8 ∷ []) $ free1 ! $ move ! (5 ∷ 6 ∷ []) $ free1 ! $ free0 ! $
                keep ! (0 ∷ 1 ∷ 2 ∷ 3 ∷ []) $ by ! (exits2 r))))))))))))))

        -- the caller
        module _ (h : T.D) (is : Is (row T) h (v_t h ∷ [])) where
          abbrev valsl : List Val × (List Val × (List Val × Unit {0}))
          valsl = (v_t h ∷ [], (vint w₁ n₁ ∷ [], (vint w₂ n₂ ∷ [], tt)))

          abbrev Postl : Val → SProp 𝓤
          Postl = (walk_of 𝓛 valued2 stayedl valued2_clauses).post ((tt, tt, tt, (h, (n₁, (n₂, tt))), valsl), tt)

          -- what g's triple binds outside: the local at l, lent for the lifetime α under the name δ
          abbrev tol : ℕ → ℕ → GName → L2.Ghost
          tol α l δ = (((α ∷ [], tt), (full_share, tt), tt, a2 (α ∷ []) full_share l 0 δ h, vals2 (α ∷ []) full_share l 0 δ h), tt)

          goesl : (α l : ℕ) (δ : GName) → ent 𝓤 (⋆ 𝓛 (‵ (flft (α ∷ []) full_share) ∷ ‵ ((MutRef (named 0) (α ∷ []) (row T)).own_val (record { ref_ptr = (l, 0); ghost_name = δ; now = h }) (vptr l 0 ∷ [])) ∷ raw (Q h n₁ n₂) ∷ [])) (L2.pre (tol α l δ))
          goesl α l δ =
              qed 𝓛 (‵ (flft (α ∷ []) full_share) ∷ ‵ ((MutRef (named 0) (α ∷ []) (row T)).own_val (record { ref_ptr = (l, 0); ghost_name = δ; now = h }) (vptr l 0 ∷ [])) ∷ raw (Q h n₁ n₂) ∷ []) ∵
              use0 𝓛 (‵ Numbers) numbers $ move ! (2 ∷ 0 ∷ []) $ fjoin ! $ nothing ! $ move ! (2 ∷ 0 ∷ []) $ join ! $ join ! $ frame ! $ done !

          exitsl : (r : T.D) → ent 𝓤 (⋆ 𝓛 (‵ ((row T).own_val r (v_t r ∷ [])) ∷ raw (E h n₁ n₂ r) ∷ [])) (Postl (v_t r))
          exitsl r =
              qed 𝓛 (‵ ((row T).own_val r (v_t r ∷ [])) ∷ raw (E h n₁ n₂ r) ∷ []) ∵
              suffices ! _ (ends_at 𝓛 valued2 stayedl valued2_clauses ((tt, tt, tt, (h, (n₁, (n₂, tt))), valsl), tt) (v_t r) r (last_T h, (tt, (tt, tt))) (tt, (tt, (tt, tt)))) $
              nothing ! $ nothing ! $ fjoin ! $ nothing ! $ fjoin ! $ nothing ! $ fjoin ! $ join ! $ nothing ! $ join ! $ frame ! $ done !

          module _ (C : Calls 𝓤 H) (Λ : Loops 𝓤 H) (g : Callee) (fm : FmC 𝓤 H 𝓛.laws C) (known : Triple 𝓤 (C g) L2) where
            walkl : ent 𝓤 (⋆ 𝓛 ((‵ ftrue ⊛ ‵ (owns (row T ∷ UInt w₁ ∷ UInt w₂ ∷ []) (h, (n₁, (n₂, tt))) valsl)) ∷ raw (Q h n₁ n₂) ∷ [])) (WpFn 𝓤 H C Λ (fnl g) (v_t h ∷ vint w₁ n₁ ∷ vint w₂ n₂ ∷ []) Postl)
            walkl =
                qed 𝓛 ((‵ ftrue ⊛ ‵ (owns (row T ∷ UInt w₁ ∷ UInt w₂ ∷ []) (h, (n₁, (n₂, tt))) valsl)) ∷ raw (Q h n₁ n₂) ∷ []) ∵ split ! $ drop ! $ drop ! $ enter ! C Λ (fnl g) (v_t h ∷ vint w₁ n₁ ∷ vint w₂ n₂ ∷ []) _ $
                alloc1 ! (λ l₀. alloc1 ! (λ l₁. alloc1 ! (λ l₂. alloc1 ! (λ l₃. alloc1 ! (λ l₄. alloc1 ! (λ l₅. alloc1 ! (λ l₆. alloc0 ! $ params1 ! $
                pass1 ! (init ! 10 refl ((LL.lawful T Lt 𝓛).typed h _ is).0) $ pass1 ! (init ! 8 refl ((uint_Lawful 𝓛 w₁).typed n₁ _ fits₁).0) $ pass1 ! (init ! 6 refl ((uint_Lawful 𝓛 w₂).typed n₂ _ fits₂).0) $ pass0 ! $
                -- [_6 (0); …; _5 (2); …; _4 (4); …; _3 (6); …; _2 (8); …; _1 (10); …; room for _0 (12); …; Q (14)]
                assigns ! (of_opd ! (load ! (from ! (stop !)) (look ! 10 refl))) (from ! (stop !)) (init ! 4 refl ((LL.lawful T Lt 𝓛).typed h _ is).0) $
                assigns ! (addr ! (from ! (stop !))) (from ! (stop !)) (init ! 0 refl (tt, tt)) $
                -- x is lent for a new lifetime α
                move ! (4 ∷ []) $ use1 𝓛 (‵ ((mem (row T)).own_at h l₄ 0)) (lies_in 𝓛 h l₄ is) $ lft_new ! tt (λ α. move ! (1 ∷ []) $
                use1 𝓛 (later (some (λ (δ : GName). ‵ ((MutRef (named 0) (α ∷ []) (row T)).own_val (record { ref_ptr = (l₄, 0); ghost_name = δ; now = h }) (vptr l₄ 0 ∷ [])) ⊛ ‵ (flent (α ∷ []) (Body (mem (row T)) l₄ 0 δ))))) (lends_ref 𝓛 (row T) (named 0) (α ∷ []) h l₄ 0) $ await ! tt $ pick ! (λ δ. split ! $
                -- [the reference; the lender's part; the token; _6 (3); …; _5 (5); …; what frees _4 (7); _3 (8); …; _2 (10); …; _1 (12); …; room for _0 (14); …; Q (16)]
                move ! (2 ∷ 0 ∷ 16 ∷ []) $ use3 𝓛 (raw (L2.pre (tol α l₄ δ))) (goesl α l₄ δ) $
                -- [what the callee asks; the lender's part; _6 (2); …; _5 (4); …; what frees _4 (6); _3 (7); …; _2 (9); …; _1 (11); …; room for _0 (13); …]
                calls_at ! fm L2 known (tol α l₄ δ) (and_then ! (load ! (from ! (stop !)) (look ! 2 refl)) (and_then ! (load ! (from ! (stop !)) (look ! 9 refl)) (and_then ! (load ! (from ! (stop !)) (look ! 7 refl)) (no_more !)))) (λ v.
                use1 𝓛 (later (some (λ (r : unit.Denot). ((‵ (flft (α ∷ []) full_share) ⊛ ‵ ftrue) ⊛ ‵ (unit.own_val r (v ∷ []))) ⊛ raw (ensured 𝓛 lent2 lent2_clauses (α ∷ [], tt) (a2 (α ∷ []) full_share l₄ 0 δ h) tt r)))) (id⊢ 𝓤 _) $ await ! tt $ pick ! (λ r. split ! $ move ! (1 ∷ []) $
                use1 𝓛 (some (λ (zs : Lasts lent2 (α ∷ [], tt) (a2 (α ∷ []) full_share l₄ 0 δ h)). ‵ (lasts lent2 (α ∷ [], tt) (a2 (α ∷ []) full_share l₄ 0 δ h) zs) ⊛ raw (E h n₁ n₂ zs.0))) (id⊢ 𝓤 _) $ pick ! (λ zs. split ! $ fsplit ! $ move ! (1 ∷ []) $ drop ! $ fsplit ! $ move ! (1 ∷ []) $ drop ! $
                -- [the last value; E; the token and the result; the lender's part; …]
                move ! (2 ∷ []) $ split ! $ move ! (1 ∷ []) $ peeks ! unit (Is unit) (shows 𝓛 unit) r (v ∷ []) (λ is'. drop ! $
                -- [the token; the last value; E; the lender's part; _6 (4); …; _5 (6); …; what frees _4 (8); _3 (9); …; _2 (11); …; _1 (13); …; room for _0 (15); …]
                land ! (from ! (stop !)) (init ! 6 refl ((Nothing-Lawful 𝓛).typed r _ is').0) $
                -- the lifetime is ended, and x is taken back at its last value
                split ! $ lft_end ! tt $ move ! (0 ∷ 4 ∷ 2 ∷ []) $ use3 𝓛 (later (‵ ((mem (row T)).own_at zs.0 l₄ 0))) (ref_back 𝓛 (row T) (α ∷ []) δ zs.0 l₄ 0) $ await ! tt $
                use1 𝓛 (‵ ((row T).own_val zs.0 (v_t zs.0 ∷ [])) ⊛ ‵ (fat full_share (layout (shape T)) l₄ 0 (v_t zs.0))) (lies_out 𝓛 zs.0 l₄) $ split ! $
                peeks ! (row T) (Is (row T)) (shows 𝓛 (row T)) zs.0 (v_t zs.0 ∷ []) (λ is''.
                -- [what x owns; _4; true; E; _6 (4); …; _5 (6); …; what frees _4 (8); _3 (9); …; _2 (11); …; _1 (13); …; room for _0 (15); …]
                assigns ! (of_opd ! (load ! (from ! (stop !)) (look ! 1 refl))) (from ! (stop !)) (init ! 15 refl ((LL.lawful T Lt 𝓛).typed zs.0 _ is'').0) $
                returns ! (look ! 15 refl) $ forget ! 1 refl $ forget ! 4 refl $ forget ! 6 refl $ forget ! 9 refl $ forget ! 11 refl $ forget ! 13 refl $ forget ! 15 refl $
                move ! (15 ∷ 16 ∷ []) $ free1 ! $ move ! (13 ∷ 14 ∷ []) $ free1 ! $ move ! (11 ∷ 12 ∷ []) $ free1 ! $ move ! (9 ∷ 10 ∷ []) $ free1 ! $ move ! (1 ∷ 8 ∷ []) $ free1 ! $ move ! (5 ∷ 6 ∷ []) $ free1 ! $ move ! (3 ∷ 4 ∷ []) $ free1 ! $ free0 ! $
                keep ! (0 ∷ 2 ∷ []) $ by ! (exitsl zs.0)))))))))))))))

      pub stores2 : (𝓣 : Tables 𝓤 H) (g : Callee) → Triple 𝓤 (𝓣.C g) V2 → Meets 𝓛 lent2.signature (WpFn 𝓤 H 𝓣.C 𝓣.Λ (fn2 g)) (closing 𝓛 lent2 lent2_clauses)
      stores2 𝓣 g known =
          walk_Meets 𝓛 lent2 stayed2 (Goes-ref 𝓛 1 0 tt (plain (λ _. row T)), (Goes-dropped 𝓛 1 (plain (λ _. UInt w₁)) yes (λ κs x f. refl), (Goes-dropped 𝓛 1 (plain (λ _. UInt w₂)) yes (λ κs x f. refl), tt)))
          lent2_clauses (WpFn 𝓤 H 𝓣.C 𝓣.Λ (fn2 g)) (WpFn-mono 𝓤 H 𝓛.laws 𝓣 (fn2 g))
          (walked 𝓛 lent2 stayed2 lent2_clauses (WpFn 𝓤 H 𝓣.C 𝓣.Λ (fn2 g)) (λ κs. (mut_vals, (uint_vals w₁, (uint_vals w₂, tt)))) (λ κs. (mut_Tells (named 0) κs.0 (row T), (uint_Tells w₁, (uint_Tells w₂, tt))))
          (λ κs qs bounds a _ are. walk2 a.1.0 a.1.1.0 are.1.0 are.1.1.0 κs.0 qs.0 a.0.ref_ptr.0 a.0.ref_ptr.1 a.0.ghost_name a.0.now 𝓣.C 𝓣.Λ g (fm_of 𝓤 H 𝓛.laws 𝓣) known))

      pub lends2 : (𝓣 : Tables 𝓤 H) (g : Callee) → Triple 𝓤 (𝓣.C g) L2 → Meets 𝓛 valued2.signature (WpFn 𝓤 H 𝓣.C 𝓣.Λ (fnl g)) (closing 𝓛 valued2 valued2_clauses)
      lends2 𝓣 g known =
          walk_Meets 𝓛 valued2 stayedl (Goes-dropped 𝓛 0 (plain (λ _. row T)) yes (λ κs x f. silent_T x f), (Goes-dropped 𝓛 0 (plain (λ _. UInt w₁)) yes (λ κs x f. refl), (Goes-dropped 𝓛 0 (plain (λ _. UInt w₂)) yes (λ κs x f. refl), tt)))
          valued2_clauses (WpFn 𝓤 H 𝓣.C 𝓣.Λ (fnl g)) (WpFn-mono 𝓤 H 𝓛.laws 𝓣 (fnl g))
          (walked 𝓛 valued2 stayedl valued2_clauses (WpFn 𝓤 H 𝓣.C 𝓣.Λ (fnl g)) (λ κs. (LL.vals T Lt, (uint_vals w₁, (uint_vals w₂, tt)))) (λ κs. (LL.tells T Lt, (uint_Tells w₁, (uint_Tells w₂, tt))))
          (λ κs qs bounds a _ are. walkl a.1.0 a.1.1.0 are.1.0 are.1.1.0 a.0 are.0 𝓣.C 𝓣.Λ g (fm_of 𝓤 H 𝓛.laws 𝓣) known))
