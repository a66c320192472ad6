-- The walk over the rules of a set and their left words: one law for each way through it.
use Prim.Native.Nat.{ℕ, ◌+◌, ◌-◌, ◌≤◌, ◌<◌}
use native.Mathlib.Omega.{arith}
use native.Mathlib.Numerals.{add-one}
use mathlib.Core.Path.{◌≡◌, refl, sym, ap, ◌∙◌}
use mathlib.Core.List.{List, [], ◌∷◌}
use mathlib.Core.Bool.{Bool, true, false, ◌&&◌, and-true}
use lib.ListN.{length, get_or, drop, length-drop, drop_of_length-le}
use lib.Seq.{drop-cons, drop-drop}
use lib.Dec.{eqb}
use borrow.Author.Tests.{eqb-true, eqb-false}
use Rattle.std.specs.Prelude.{Ok, Err}
use Rattle.text.specs.declared.Spot.{Spot}
use Rattle.text.specs.declared.faults.Fault.{Fault}
use Rattle.text.specs.Told.{number_of}
use Rattle.text.specs.Bytes.{Text, Words, any_of}
use Rattle.text.specs.Words.{too_long}
use Rattle.text.specs.Reading.{left, follow, Opens}
use Rattle.text.proofs.Lists.{no, or_right, any_drop}
use Rattle.text.proofs.Readers.{no_lines}
use Rattle.profile.specs.Profile.{Texts, Profile, profile_of, layout_count}
use Rattle.rules.specs.declared.Column.{Column}
use Rattle.rules.specs.Headings.{Heading}
use Rattle.rules.specs.Faults.{Groups, right_words}
use Rattle.rules.specs.Checking.{line_of, check_from}
use Rattle.answers.specs.Layouts.{per_layout}
use Rattle.answers.specs.Matching.{members, rule_matches}
use Rattle.bitsets.specs.Sets.{is_in}
use Rattle.bitsets.proofs.Bits.{in_none}
use Rattle.rules.specs.Held.{heading_by}
use Rattle.names.specs.Rows.{Question, asks}
use Rattle.names.specs.Ready.{TableReady}
use Rattle.names.proofs.Rows.{asks_level}
use Rattle.judging.specs.Lines.{RuleLineRead, LineRefused}
use Rattle.names.specs.declared.Names.{Names}
use Rattle.reading.specs.declared.OpenSet.{OpenSet}
use Rattle.reading.specs.declared.LeftWords.{LeftWords}
use Rattle.reading.specs.declared.Sought.TheVariants as sought
use Rattle.reading.specs.Owed.{Kept, owed}
use Rattle.reading.specs.Left.{asked, Answers, LeftHeld}
use Rattle.reading.specs.Seeking.{Seekable, SetOpen, PassedOver, Seeks}
use Rattle.reading.proofs.RuleLines.{line_short, line_faults_lem, line_count, owed_blank, owed_miss, owed_keep, owed_fire}

-- the columns of a heading can be asked at a layout
abbrev Fits : ℕ → ℕ → List Column → Type 0
Fits n k cs = any_of per_layout cs ≡ true → (1 ≤ k) × (k ≤ n)

any_head : (c : Column) (cs : List Column) → per_layout c ≡ true → any_of per_layout (c ∷ cs) ≡ true
unfolding any_of
any_head c cs e = rw e refl

any_later : (c : Column) (cs : List Column) → any_of per_layout cs ≡ true → any_of per_layout (c ∷ cs) ≡ true
unfolding any_of
any_later c cs e = or_right (per_layout c) (any_of per_layout cs) e

any_behind : (j : ℕ) (cs : List Column) → any_of per_layout (drop j cs) ≡ true → any_of per_layout cs ≡ true
any_behind j cs e = go (any_of per_layout cs) refl
  where
    go : (b : Bool) → any_of per_layout cs ≡ b → any_of per_layout cs ≡ true
    go true z = z
    go false z = absurd (no (sym (any_drop per_layout j cs z) ∙ e))

asked_done : (q : Question) (k : ℕ) (ws : Words) → asked q k [] ws ≡ true
unfolding asked
asked_done q k ws = refl

-- what is asked of a rule's words is whether it matches
asked_rule : (gs : Groups) (p : Profile) (k : ℕ) (cs : List Column) (ws : Words) → length cs ≤ length ws → asked (asks gs p) k cs ws ≡ rule_matches (members gs) p k cs ws
unfolding asked asks rule_matches
asked_rule gs p k [] ws h = refl
asked_rule gs p k (c ∷ cs) [] h = absurd (omega arith)
asked_rule gs p k (c ∷ cs) (w ∷ ws) h = rw (asked_rule gs p k cs ws (omega arith)) refl

module _ (names : Names) (o : OpenSet) (s : Text) where
  abbrev H : Heading
  H = heading_by o.set

  -- the loop over the columns: the layouts that are left, and the words that are left, say the same as all of them
  pub record LeftGoing (from c : ℕ) (x : LeftWords) : Type 0 where
    pub high : x.end.at ≤ length s
    pub few : x.end.line ≤ x.end.at + 1
    pub some : (x.layouts ≡ 0 → ⊥) → o.wanted ≡ 0 → ⊥
    pub behind : (x.layouts ≡ 0 → ⊥) → left s x.end.at ≡ drop c (left s from)
    pub enough : (x.layouts ≡ 0 → ⊥) → c ≤ length (left s from)
    pub tells : (q : Question) (n : ℕ) → Answers q n names.table → (k : ℕ) → Fits n k H.columns →
        (is_in k o.wanted && asked q k H.columns (left s from)) ≡ (is_in k x.layouts && asked q k (drop c H.columns) (left s x.end.at))

  pub left_start : (from l : ℕ) → from ≤ length s → l ≤ from + 1 → LeftGoing from 0 (record { layouts = o.wanted; end = record { at = from; line = l } })
  left_start from l h f =
      record { high = h; few = f; some = λ z. z; behind = λ z. refl; enough = λ z. omega arith; tells = λ q n v k g. refl }

  module _ (from c : ℕ) (x : LeftWords) (v : LeftGoing from c x) where
    left_one : c < length H.columns → (x.layouts ≡ 0 → ⊥) → (r : LeftWords) (k : Column) → LeftHeld names.table (get_or H.columns c k) s x r → LeftGoing from (c + 1) r
    left_one g z r k w =
        record {
          high = w.high;
          few = w.few;
          some = λ y. v.some z;
          behind = λ y. w.rest y ∙ (ap (drop 1) (v.behind z) ∙ drop-drop 1 c (left s from));
          enough = λ y.
              let e : length (left s x.end.at) ≡ length (left s from) - c = ap length (v.behind z) ∙ length-drop c (left s from) in
              omega (arith, w.some y, e);
          tells = λ q n a i f.
              v.tells q n a i f
              ∙ (rw column (w.tells q n a i (λ e. f (any_behind c H.columns (rw column (any_head (get_or H.columns c k) (drop (c + 1) H.columns) e)))) (drop (c + 1) H.columns)));
        }
      where
        column : drop c H.columns ≡ get_or H.columns c k ∷ drop (c + 1) H.columns
        column = rw add-one (drop-cons H.columns c k g)

    pub left_more : (cs : List Column) → cs ≡ H.columns → c < length cs → (x.layouts ≡ 0 → ⊥) → (r : LeftWords) (k : Column) → LeftHeld names.table (get_or cs c k) s x r →
        LeftGoing from (c + 1) r
    left_more cs i l z r k y = left_one (rw i at l) z r k (rw i at y)

    left_miss : x.layouts ≡ 0 → (q : Question) (n : ℕ) → Answers q n names.table → (k : ℕ) → Fits n k H.columns →
        (is_in k o.wanted && asked q k H.columns (left s from)) ≡ false
    left_miss e q n a k f = v.tells q n a k f ∙ rw (e, in_none k) refl

    left_done : length H.columns ≤ c → (q : Question) (n : ℕ) → Answers q n names.table → (k : ℕ) → Fits n k H.columns →
        is_in k x.layouts ≡ (is_in k o.wanted && asked q k H.columns (left s from))
    left_done g q n a k f =
        sym (v.tells q n a k f ∙ rw (drop_of_length-le H.columns g, asked_done q k (left s x.end.at)) (and-true (is_in k x.layouts)))

  module _ (at n : ℕ) where
    -- the loop over the lines
    pub record Seeking (i m : ℕ) : Type 0 where
      pub low : at ≤ i
      pub high : i ≤ length s
      pub few : m ≤ i + 1
      pub over : (x : Texts) (gs : Groups) → TableReady x gs names.table → SetOpen (layout_count (profile_of x)) o → PassedOver x gs o s at n i m

    pub seek_start : at ≤ length s → n ≤ at + 1 → Seeking at n
    seek_start h f = record { low = omega arith; high = h; few = f; over = λ x gs r u. record { faults = λ ns. refl; owes = λ kept. refl } }

    answers_of : (x : Texts) (gs : Groups) → TableReady x gs names.table → SetOpen (layout_count (profile_of x)) o →
        Answers (asks gs (profile_of x)) (layout_count (profile_of x)) names.table
    answers_of x gs r u = record { held = r.held; level = asks_level gs (profile_of x); some = u.some }

    module _ (i m : ℕ) (v : Seeking i m) where
      pub seek_end : length s ≤ i → Seeks names o s at n (Ok sought.End)
      unfolding check_from
      seek_end h =
          record {
            place = Prim.tt {0};
            means = λ x gs r u.
                let p = v.over x gs r u in
                let e = no_lines s i m h in
                (λ ns. p.faults ns ∙ rw e refl, λ kept. p.owes kept ∙ rw e refl);
          }

      pub seek_heading : (w : Spot) → i < length s → Opens s i m true w.at w.line → Seeks names o s at n (Ok (sought.Heading (record { at = i; line = m }) w))
      seek_heading from h w = record { place = (v.low, h, v.few, w); means = v.over }

      pub seek_refused : (f : Fault) → LineRefused s i m o.present (number_of f) → Seeks names o s at n (Err (record { fault = f; place = m }))
      seek_refused f w = record { place = Prim.tt {0}; means = λ x gs r u ns. rw ((v.over x gs r u).faults ns) (w.first ns) }

      -- a line that is no heading, and is not refused
      module _ (able : Seekable o) (from l next n' : ℕ) (w : RuleLineRead s i m o.present from l next n') (c : ℕ) (y : LeftWords) (g : LeftGoing from c y) where
        count_is : (o.wanted ≡ 0 → ⊥) → (length (left s from) ≡ 0 → ⊥) → length (left s from) ≡ length H.columns + 1 + length H.components
        count_is z e = line_count o.present m (left s from) w.fault (heading_by o.set) (able.heading z) e

        enough_of : (o.wanted ≡ 0 → ⊥) → (length (left s from) ≡ 0 → ⊥) → length H.columns ≤ length (left s from)
        enough_of z e = omega (arith, count_is z e)

        pub seek_miss : y.layouts ≡ 0 → Seeking next n'
        seek_miss e =
            record {
              low = omega (arith, v.low, w.on);
              high = w.high;
              few = w.fewer;
              over = λ x gs r u.
                  let p = v.over x gs r u in
                  record {
                    faults = λ ns. p.faults ns ∙ rw w.read (line_faults_lem o.present m (left s from) w.fault ns (follow s next n'));
                    owes = λ kept. p.owes kept ∙ rw w.read (passed x gs r u kept (eqb (length (left s from)) 0) refl (eqb o.wanted 0) refl);
                  };
            }
          where
            passed : (x : Texts) (gs : Groups) → TableReady x gs names.table → SetOpen (layout_count (profile_of x)) o → (kept : Kept) →
                (a : Bool) → eqb (length (left s from)) 0 ≡ a → (b : Bool) → eqb o.wanted 0 ≡ b →
                owed gs (profile_of x) o kept (line_of m false (left s from) ∷ follow s next n') ≡ owed gs (profile_of x) o kept (follow s next n')
            passed x gs r u kept true z b f =
                owed_blank o.present m (left s from) w.fault gs (profile_of x) o kept (follow s next n') (eqb-true (length (left s from)) 0 z)
            passed x gs r u kept false z true f =
                owed_miss o.present m (left s from) w.fault gs (profile_of x) o kept (follow s next n') (eqb-false (length (left s from)) 0 z) u.all
                (λ k a b. rw (eqb-true o.wanted 0 f, in_none k) refl)
            passed x gs r u kept false z false f =
                owed_miss o.present m (left s from) w.fault gs (profile_of x) o kept (follow s next n') (eqb-false (length (left s from)) 0 z) u.all
                (λ k a b.
                rw (← asked_rule gs (profile_of x) k H.columns (left s from) (enough_of (eqb-false o.wanted 0 f) (eqb-false (length (left s from)) 0 z)))
                (left_miss from c y g e (asks gs (profile_of x)) (layout_count (profile_of x)) (answers_of x gs r u) k (λ j. u.among j k a b)))

        module _ (done : length H.columns ≤ c) (c-high : c ≤ length H.columns) (hit : y.layouts ≡ 0 → ⊥) where
          wanted : o.wanted ≡ 0 → ⊥
          wanted = g.some hit

          nonblank : length (left s from) ≡ 0 → ⊥
          nonblank e = absurd (omega (arith, g.enough hit, able.columns, e))

          is_left : c ≡ length H.columns
          is_left = omega arith

          behind_is : left s y.end.at ≡ drop (length H.columns) (left s from)
          behind_is = g.behind hit ∙ ap (λ (j : ℕ). drop j (left s from)) is_left

          matched : (x : Texts) (gs : Groups) → TableReady x gs names.table → SetOpen (layout_count (profile_of x)) o → (k : ℕ) → o.first ≤ k → k < o.first + o.count →
              is_in k y.layouts ≡ (is_in k o.wanted && rule_matches (members gs) (profile_of x) k H.columns (left s from))
          matched x gs r u k a b =
              rw (← asked_rule gs (profile_of x) k H.columns (left s from) (enough_of wanted nonblank))
              (left_done from c y g done (asks gs (profile_of x)) (layout_count (profile_of x)) (answers_of x gs r u) k (λ j. u.among j k a b))

          pub seek_found : Seeks names o s at n (Ok (sought.Rule y.end.at y.layouts (record { at = next; line = n' })))
          unfolding right_words
          seek_found =
              record {
                place = (
                  record {
                    high = g.high;
                    count = ap length behind_is ∙ (length-drop (length H.columns) (left s from) ∙ omega (arith, count_is wanted nonblank));
                    short = rw behind_is (any_drop too_long (length H.columns) (left s from) (line_short o.present m (left s from) w.fault));
                  },
                  wanted,
                  omega (arith, v.low, w.on),
                  w.high,
                  w.fewer,
                );
                means = λ x gs r u.
                    let p = v.over x gs r u in
                    record {
                      rule = record { number = m; text = left s from };
                      words = rw (behind_is, drop-drop 1 (length H.columns) (left s from)) refl;
                      faults = λ ns. p.faults ns ∙ rw w.read (line_faults_lem o.present m (left s from) w.fault ns (follow s next n'));
                      keeps = λ e kept q out. p.owes kept ∙ rw w.read
                          (owed_keep o.present m (left s from) w.fault gs (profile_of x) o kept (follow s next n') nonblank u.all y.layouts q (matched x gs r u) out e);
                      fires = λ e kept q out. p.owes kept ∙ rw w.read
                          (owed_fire o.present m (left s from) w.fault gs (profile_of x) o kept (follow s next n') nonblank u.all y.layouts q (matched x gs r u) out e);
                    };
              }
