-- A group is defined: refused, or one group more.
use Rattle.std.proofs.Common.{◌≡◌, ◌+◌, ◌-◌, ◌≤◌, ◌<◌, Bool, true, false, ◌||◌, leb, [], ◌∷◌, ◌++◌, length, length-append, Result, Ok, Err, refl, sym, ap, ◌∙◌, arith}
use borrow.Author.Tests.{eqb-true, lt-leb}
use Rattle.text.specs.Limits.{most_groups, longest_word}
use Rattle.text.specs.Bytes.{Text, Words, same, first, rest, all_of, any_of}
use Rattle.text.specs.declared.faults.Fault.TheVariants.{BadGroup}
use Rattle.text.proofs.Lists.{no, any_cons}
use Rattle.profile.specs.Profile.{Texts, profile_of, layout_count}
use Rattle.rules.specs.Words.{has_dollar, ordinary}
use Rattle.rules.specs.Faults.{Group, Groups, defined}
use Rattle.listing.specs.Names.{text_size}
use Rattle.listing.specs.Lists.{text_of, names_of}
use Rattle.text.specs.declared.faults.Fault.{Fault}
use Rattle.names.specs.declared.Row.{Row}
use Rattle.names.specs.declared.Names.{Names}
use Rattle.names.specs.Rows.{asks}
use Rattle.names.specs.Compiled.{Joined, Renewed, NewRow}
use Rattle.names.specs.Ready.{NoProfile, TableReady, Ready}
use Rattle.names.specs.Defining.{RoomForName, RoomForGroups, Roomy, Defines}
use Rattle.names.proofs.GroupMatches.{group_others, group_this}
use Rattle.names.proofs.Renewing.{compiled_new}
use Rattle.names.proofs.Placing.{values_longer}

dollar_word : (w : Text) → has_dollar w ≡ true → w ≡ 36 ∷ rest w
unfolding has_dollar first rest
dollar_word [] h = absurd (no h)
dollar_word (b ∷ w) h = let e : b ≡ 36 = eqb-true b 36 h in rw e refl

same_dollar : (y g : Text) → same (36 ∷ y) (36 ∷ g) ≡ same y g
unfolding same
same_dollar y g = refl

defined_cons : (g : Group) (gs : Groups) (y : Text) → defined (g ∷ gs) y ≡ same y g.name || defined gs y
unfolding defined any_of
defined_cons g gs y = refl

-- a name that fits behind the text has room, whatever its length and the groups that may still come
pub fits_has_room : (w : Text) (names : Names) → length w ≤ text_size - names.table.list.used → RoomForName w names
fits_has_room w names h few fresh = omega (arith, names.table.list.room)

-- where there is room for all groups that may come, there is for each
pub room_for_name : (w : Text) (names : Names) → RoomForGroups names → length w ≤ longest_word → RoomForName w names
room_for_name w names v h few fresh = omega (arith, v, h)

-- before a profile is compiled there is room
pub new_roomy : (names : Names) → NoProfile names → Roomy names
new_roomy names v =
    record {
      room = omega (arith, v.table.list.used, v.groups);
      limit = omega (arith, v.groups);
      layouts = omega (arith, v.layouts);
    }

-- a group of a word's length leaves the room
pub defined_roomy : (w : Text) (row : Row) (names names' : Names) (r : Result (Unit {0}) Fault) → Defines w row names names' r → length w ≤ longest_word →
    Roomy names → Roomy names'
defined_roomy w row names names' r d h v = record { room = d.room (omega (arith, h)) v.room; limit = limit r d; layouts = rw d.values.1 v.layouts }
  where
    limit : (o : Result (Unit {0}) Fault) → Defines w row names names' o → names'.groups ≤ most_groups
    limit (Ok u) e = omega (arith, e.few refl, e.number refl)
    limit (Err f) e = rw (e.kept refl).0 v.limit

module _ (w : Text) (h : has_dollar w ≡ true) (row : Row) (names : Names) where
  -- whether the name is listed already
  module _ (r : Bool) (e : r ≡ any_of (same w) (names_of names.table.list)) (x : Texts) (gs : Groups) (v : TableReady x gs names.table) where
    known : r ≡ defined gs (rest w)
    known = e ∙ (ap (λ (y : Text). any_of (same y) (names_of names.table.list)) (dollar_word w h) ∙ v.listed (rest w))

    refused_twice : r ≡ true → true ≡ defined gs (rest w) || leb most_groups (length gs)
    refused_twice f = let z : defined gs (rest w) ≡ true = sym known ∙ f in rw z refl

    not_refused : r ≡ false → names.groups < most_groups → names.groups ≡ length gs → false ≡ defined gs (rest w) || leb most_groups (length gs)
    not_refused f l n =
        let o : defined gs (rest w) ≡ false = sym known ∙ f in
        let b : leb most_groups (length gs) ≡ false = lt-leb most_groups (length gs) (omega (arith, n)) in
        rw (o, b) refl

  -- nothing is changed
  kept_all : ((x : Texts) (gs : Groups) → TableReady x gs names.table → names.groups ≡ length gs → true ≡ defined gs (rest w) || leb most_groups (length gs)) → Defines w row names names (Err BadGroup)
  kept_all f = record { kept = λ z. (refl, refl); few = λ z. absurd (no z); number = λ z. absurd (no z); count = λ z. absurd (no z); text = λ z. absurd (no z); values = (refl, refl); room = λ z v. v; refusal = f; table = λ z. absurd (no z); more = λ z. absurd (no z) }

  module _ (r : Bool) (e : r ≡ any_of (same w) (names_of names.table.list)) where
    pub defines_twice : r ≡ true → Defines w row names names (Err BadGroup)
    defines_twice f = kept_all (λ x gs v n. refused_twice r e x gs v f)

    -- one group more, with the words that the row is that of
    module _ (f : r ≡ false) (names' : Names) (u : NewRow names.table names'.table (text_of names.table.list ++ w) w row)
        (few : names.groups < most_groups) (grown : names'.groups ≡ names.groups + 1)
        (kept : (names'.bounds ≡ names.bounds) × (names'.layouts ≡ names.layouts)) where
      group_table : (x : Texts) (gs : Groups) (ms : Words) → TableReady x gs names.table → all_of ordinary ms ≡ true → Joined names.table ms row →
          TableReady x (record { name = rest w; members = ms } ∷ gs) names'.table
      group_table x gs ms v a j =
          record {
            held =
                compiled_new names.table names'.table (text_of names.table.list ++ w) w row u (let l = names.few in omega arith) (asks gs (profile_of x))
                (asks (record { name = rest w; members = ms } ∷ gs) (profile_of x)) (layout_count (profile_of x)) renewed (sym e ∙ f) v.held;
            listed = λ y.
                ap (any_of (same (36 ∷ y))) u.names
                ∙ (any_cons (same (36 ∷ y)) w (names_of names.table.list)
                ∙ (ap (λ (z : Text). same (36 ∷ y) z || any_of (same (36 ∷ y)) (names_of names.table.list)) (dollar_word w h)
                ∙ (rw (same_dollar y (rest w), v.listed y) refl ∙ sym (defined_cons (record { name = rest w; members = ms }) gs y))));
          }
        where
          renewed : Renewed (asks gs (profile_of x)) (asks (record { name = rest w; members = ms } ∷ gs) (profile_of x)) (layout_count (profile_of x)) w row
          renewed =
              record {
                others = λ y z k c. group_others (record { name = rest w; members = ms }) gs (profile_of x) y (ap (same y) (sym (dollar_word w h)) ∙ z) k c;
                this =
                    record {
                      at = λ k c p q.
                          j.means (asks gs (profile_of x)) (layout_count (profile_of x)) v.held k c p q
                          ∙ (sym (group_this (record { name = rest w; members = ms }) gs x k c a)
                          ∙ ap (asks (record { name = rest w; members = ms } ∷ gs) (profile_of x) k c) (sym (dollar_word w h)));
                    };
              }

      group_ready : (x : Texts) (gs : Groups) (ms : Words) → Ready x gs names → all_of ordinary ms ≡ true → Joined names.table ms row →
          Ready x (record { name = rest w; members = ms } ∷ gs) names'
      group_ready x gs ms v a j =
          record {
            table = group_table x gs ms v.table a j;
            number = omega (arith, grown, v.number);
            values = rw (u.text, kept.0) (values_longer x (text_of names.table.list) w names.bounds v.values);
            layouts = kept.1 ∙ v.layouts;
          }

      pub defines_more : Defines w row names names' (Ok (tt {0}))
      defines_more =
          record {
            kept = λ z. absurd (no z);
            few = λ z. few;
            number = λ z. grown;
            count = λ z. u.count;
            text = λ z. u.text;
            values = kept;
            room = λ z v.
                let t : length (text_of names'.table.list) ≡ length (text_of names.table.list) + length w =
                ap length u.text ∙ length-append (text_of names.table.list) w in
                omega (arith, t, names.table.list.long, names'.table.list.long, v, z, few, grown);
            refusal = λ x gs v n. not_refused r e x gs v f few n;
            table = λ z x gs ms v a j. group_table x gs ms v a j;
            more = λ z x gs ms v a j. group_ready x gs ms v a j;
          }
