-- Files that are loaded one after another.
use Rattle.std.proofs.Common.{◌≡◌, ◌∙◌, ◌<◌, ◌≤◌, ◌+◌, ℕ, zero, suc, Bool, true, false, List, [], ◌∷◌, ◌++◌, length, take, drop, set, get_or, map, Option, None, arith, refl, sym, ap, subst, append_assoc}
use Rattle.std.proofs.lemmas.List.{drop_more, take_more, take-append-drop, length-append}
use Rattle.std.proofs.Math.Seq.{get_or-append_seam, set-append_seam}
use Rattle.std.proofs.Math.ListN.{drop_of_length-le, get_or-map}
use Rattle.route_meaning.specs.History.{History}
use Rattle.resolve.specs.declared.without_hop.WithoutHop.{WithoutHop}
use Rattle.service.specs.Represented.{Represented}
use Rattle.service.specs.Outputs.{OutputState}
use Rattle.service.specs.Feeds.{MayGive, Sums, limits_for}
use Rattle.service.specs.Loads.{IsLoaded, IsLoadEnd}
use Rattle.service.specs.FileLoads.{AreWhole, FileState, IsFileEnd, IsLoadedTo, IsReported, IsWhole, mark_unless, refused_if, with_mark_at}
use Rattle.service.specs.declared.faults.FeedCut.{FeedCut}
use Rattle.service.specs.declared.limits.BatchLimits.{BatchLimits}
use Rattle.service.specs.declared.report.LoadReport.{LoadReport}
use Rattle.service.specs.declared.settings.LoadSettings.{LoadSettings}
use Rattle.service.specs.declared.status.Status.{Status}
use Rattle.service.specs.declared.status.Status.TheVariants as statuses

-- of all that is represented, this history alone
only : (rule : WithoutHop) (c dropped : ℕ) (limit : BatchLimits) (mark : Option ℕ) (h : History) (bytes : List ℕ) (cut : Option FeedCut) (sums : Sums) (archive : Represented) (was now : OutputState) (l : IsLoaded rule c dropped limit mark h bytes cut sums archive was now)
    → IsLoaded rule c dropped limit mark h bytes cut sums (λ g. g ≡ l.applied.now) was now
only rule c dropped limit mark h bytes cut sums archive was now l = record {
  rest = l.rest;
  records = l.records;
  results = l.results;
  feed = l.feed;
  cut_is = l.cut_is;
  applied = record { now = l.applied.now; intakes_are = l.applied.intakes_are; idle = l.applied.idle; represented = refl };
  wrote = l.wrote;
  summed = l.summed;
}

-- what the load of a file that is done leaves
pub record IsDone (how : LoadSettings) (most dropped left : ℕ) (h : History) (bytes : List ℕ) (lost_was lost : Bool) (report : LoadReport) (archive : Represented) (was now err_was err_now : OutputState) : Type 0 where
  pub next : History
  pub represented : archive next
  pub quiet : err_now ≡ err_was
  pub ended : IsFileEnd how most dropped left h bytes lost_was lost statuses.Done report (λ g. g ≡ next) was now err_was err_was

done_with : (held : Bool) (plain status : Status) (how : LoadSettings) (most dropped left : ℕ) (h : History) (bytes : List ℕ) (sums : Sums) (lost_was lost : Bool) (report : LoadReport) (archive : Represented) (was now err_was err_now : OutputState)
    → status ≡ statuses.Done → status ≡ refused_if held plain → report.is_held ≡ held → left ≡ sums.left → IsReported how dropped sums report
    → IsLoadEnd how.feed.rule how.feed.collector dropped (limits_for how.feed most) (mark_unless held how.mark) h bytes sums lost_was lost plain archive was now err_was err_now
    → IsDone how most dropped left h bytes lost_was lost report archive was now err_was err_now
unfolding only
done_with true statuses.Done status how most dropped left h bytes sums lost_was lost report archive was now err_was err_now done is held drops says e = absurd cc
done_with true statuses.Refused status how most dropped left h bytes sums lost_was lost report archive was now err_was err_now done is held drops says e = absurd cc
done_with true statuses.Failed status how most dropped left h bytes sums lost_was lost report archive was now err_was err_now done is held drops says e = absurd cc
done_with false statuses.Refused status how most dropped left h bytes sums lost_was lost report archive was now err_was err_now done is held drops says e = absurd cc
done_with false statuses.Failed status how most dropped left h bytes sums lost_was lost report archive was now err_was err_now done is held drops says e = absurd cc
done_with false statuses.Done status how most dropped left h bytes sums lost_was lost report archive was now err_was err_now done is held drops says e =
    let l = e.1 in
    let rule = how.feed.rule in
    let c = how.feed.collector in
    let limit = limits_for how.feed most in
    record {
      next = l.applied.now;
      represented = l.applied.represented;
      quiet = e.4;
      ended = record {
        sums = sums;
        drops = drops;
        reported = says;
        plain = statuses.Done;
        status_is = ap (λ (b : Bool). refused_if b statuses.Done) (sym held);
        ended =
            subst (λ (b : Bool). IsLoadEnd rule c dropped limit (mark_unless b how.mark) h bytes sums lost_was lost statuses.Done (λ g. g ≡ l.applied.now) was now err_was err_was) (sym held)
            (e.0, only rule c dropped limit (mark_unless false how.mark) h bytes None sums archive was now l, e.2, ap (λ (o : OutputState). o.failed) (sym e.4) ∙ e.3, refl, e.5);
      };
    }

pub done_by : (status : Status) (how : LoadSettings) (most dropped left : ℕ) (h : History) (bytes : List ℕ) (lost_was lost : Bool) (report : LoadReport) (archive : Represented) (was now err_was err_now : OutputState)
    → status ≡ statuses.Done → IsFileEnd how most dropped left h bytes lost_was lost status report archive was now err_was err_now
    → IsDone how most dropped left h bytes lost_was lost report archive was now err_was err_now
done_by status how most dropped left h bytes lost_was lost report archive was now err_was err_now done e = done_with report.is_held e.plain status how most dropped left h bytes e.sums lost_was lost report archive was now err_was err_now done e.status_is refl e.drops e.reported e.ended

-- one more file
one_more : (how : LoadSettings) (most dropped between left : ℕ) (h g next : History) (files files_now : List FileState) (file file_now : FileState) (was mid now err : OutputState)
    → AreWhole how most dropped between h g files files_now was mid err → IsWhole how most between left g next file file_now mid now err
    → AreWhole how most dropped left h next (files ++ file ∷ []) (files_now ++ file_now ∷ []) was now err
one_more how most dropped between left h g next [] [] file file_now was mid now err a w = (
  left,
  next,
  now,
  subst (λ (n : ℕ). IsWhole how most n left h next file file_now was now err) a.0
      (subst (λ (k : History). IsWhole how most between left k next file file_now was now err) a.1 (subst (λ (o : OutputState). IsWhole how most between left g next file file_now o now err) a.2 w)),
  (refl, refl, refl),
)
one_more how most dropped between left h g next [] (x ∷ xs) file file_now was mid now err a w = absurd a
one_more how most dropped between left h g next (x ∷ xs) [] file file_now was mid now err a w = absurd a
one_more how most dropped between left h g next (x ∷ xs) (y ∷ ys) file file_now was mid now err a w = (a.0, a.1, a.2, a.3, one_more how most a.0 between left a.1 g next xs ys file file_now a.2 mid now err a.4 w)

-- the files before this place were loaded without a mark
pub record IsAt (how : LoadSettings) (most dropped left : ℕ) (h : History) (files files_now : List FileState) (place : ℕ) (archive : Represented) (was now err_was err_now : OutputState) : Type 0 where
  pub next : History
  pub represented : archive next
  pub front_now : List FileState
  pub count : length front_now ≡ place
  pub are : files_now ≡ front_now ++ drop place files
  pub whole : AreWhole how most dropped left h next (take place files) front_now was now err_was
  pub quiet : err_now ≡ err_was

-- none yet
pub at_first : (how : LoadSettings) (most dropped : ℕ) (h : History) (files : List FileState) (archive : Represented) (was err : OutputState) → archive h → IsAt how most dropped dropped h files files 0 archive was was err err
at_first how most dropped h files archive was err represented = record { next = h; represented = represented; front_now = []; count = refl; are = refl; whole = (refl, refl, refl); quiet = refl }

-- the next file is the one that stood there first
pub next_file : (how : LoadSettings) (most dropped left : ℕ) (h : History) (files files_now : List FileState) (place : ℕ) (file d : FileState) (archive : Represented) (was now err_was err_now : OutputState)
    → IsAt how most dropped left h files files_now place archive was now err_was err_now → place < length files → file ≡ get_or files_now place d → drop place files ≡ file ∷ drop (place + 1) files
next_file how most dropped left h files files_now place file d archive was now err_was err_now a lt is =
    let there = drop_more files place d lt in
    let same : file ≡ get_or files place d =
    is ∙ ap (λ (t : List FileState). get_or t place d) (a.are ∙ ap (λ (t : List FileState). a.front_now ++ t) there)
    ∙ ap (λ (n : ℕ). get_or (a.front_now ++ get_or files place d ∷ drop (place + 1) files) n d) (sym a.count) ∙ get_or-append_seam a.front_now (get_or files place d) (drop (place + 1) files) d in
    there ∙ ap (λ (t : FileState). t ∷ drop (place + 1) files) (sym same)

-- and the files with its new state
pub with_next : (how : LoadSettings) (most dropped left : ℕ) (h : History) (files files_now : List FileState) (place : ℕ) (file file_now : FileState) (archive : Represented) (was now err_was err_now : OutputState)
    → (a : IsAt how most dropped left h files files_now place archive was now err_was err_now) → drop place files ≡ file ∷ drop (place + 1) files
    → set files_now place file_now ≡ a.front_now ++ file_now ∷ drop (place + 1) files
with_next how most dropped left h files files_now place file file_now archive was now err_was err_now a there =
    ap (λ (t : List FileState). set t place file_now) (a.are ∙ ap (λ (t : List FileState). a.front_now ++ t) there)
    ∙ ap (λ (n : ℕ). set (a.front_now ++ file ∷ drop (place + 1) files) n file_now) (sym a.count) ∙ set-append_seam a.front_now file (drop (place + 1) files) file_now

-- one more is loaded
pub at_next : (how : LoadSettings) (most dropped between left : ℕ) (h : History) (files files_now : List FileState) (place : ℕ) (file file_now : FileState) (archive later : Represented) (was mid now err_was err_mid err_now : OutputState)
    → (a : IsAt how most dropped between h files files_now place archive was mid err_was err_mid) → place < length files → drop place files ≡ file ∷ drop (place + 1) files
    → (bytes : List ℕ) × MayGive file.input.left bytes × IsDone (record how { mark = None }) most between left a.next bytes file.input.failed file_now.input.failed file_now.report later mid now err_mid err_now
    → IsAt how most dropped left h files (set files_now place file_now) (place + 1) later was now err_was err_now
at_next how most dropped between left h files files_now place file file_now archive later was mid now err_was err_mid err_now a lt there e =
    let d = e.2 in
    record {
      next = d.next;
      represented = d.represented;
      front_now = a.front_now ++ file_now ∷ [];
      count = length-append a.front_now (file_now ∷ []) ∙ ap (λ (n : ℕ). n + 1) a.count;
      are = with_next how most dropped between h files files_now place file file_now archive was mid err_was err_mid a there ∙ sym (append_assoc a.front_now (file_now ∷ []) (drop (place + 1) files));
      whole =
          subst (λ (t : List FileState). AreWhole how most dropped left h d.next t (a.front_now ++ file_now ∷ []) was now err_was) (front_more files place file lt there)
          (one_more how most dropped between left h a.next d.next (take place files) a.front_now file file_now was mid now err_was a.whole
          (record { bytes = e.0; given = e.1; ended = subst (λ (o : OutputState). IsFileEnd (record how { mark = None }) most between left a.next e.0 file.input.failed file_now.input.failed statuses.Done file_now.report (λ g. g ≡ d.next) mid now o o) a.quiet d.ended }));
      quiet = d.quiet ∙ a.quiet;
    }
  where
    head_is : (x y : FileState) (xs ys : List FileState) → ◌≡◌ {A = List FileState} (x ∷ xs) (y ∷ ys) → x ≡ y
    head_is x y xs ys e = cc

    front_more : (files : List FileState) (place : ℕ) (file : FileState) → place < length files → drop place files ≡ file ∷ drop (place + 1) files → take place files ++ file ∷ [] ≡ take (place + 1) files
    front_more files place file lt there =
        ap (λ (t : FileState). take place files ++ t ∷ []) (sym (head_is _ _ _ _ (sym (drop_more files place file lt) ∙ there))) ∙ sym (take_more files place file lt)

-- none comes after the last file
pub none_after : (place : ℕ) (files : List FileState) → place + 1 ≡ length files → drop (place + 1) files ≡ []
none_after place files last = drop_of_length-le files (omega (arith, last))

-- how a file is loaded: with the mark where it is the last
pub marked_by : (is_last : Bool) (how at : LoadSettings) (place : ℕ) (files : List FileState) (d : FileState) → (is_last ≡ true → at ≡ how) → (is_last ≡ false → at ≡ record how { mark = None })
    → (is_last ≡ true → place + 1 ≡ length files) → (is_last ≡ false → place + 1 < length files) → at ≡ with_mark_at (drop (place + 1) files) how
marked_by true how at place files d last other ends more = last refl ∙ sym (ap (λ (t : List FileState). with_mark_at t how) (none_after place files (ends refl)))
marked_by false how at place files d last other ends more = other refl ∙ sym (ap (λ (t : List FileState). with_mark_at t how) (drop_more files (place + 1) d (more refl)))

-- the load ends at this file
pub ended_at : (how at : LoadSettings) (most most_now dropped left left_now : ℕ) (h : History) (files files_now : List FileState) (place : ℕ) (file file_now : FileState) (status : Status) (archive later : Represented) (was mid now err_was err_mid err_now : OutputState)
    → (a : IsAt how most dropped left h files files_now place archive was mid err_was err_mid) → drop place files ≡ file ∷ drop (place + 1) files
    → at ≡ with_mark_at (drop (place + 1) files) how → most_now ≡ most → (status ≡ statuses.Done → drop (place + 1) files ≡ [])
    → (bytes : List ℕ) × MayGive file.input.left bytes × IsFileEnd at most_now left left_now a.next bytes file.input.failed file_now.input.failed status file_now.report later mid now err_mid err_now
    → IsLoadedTo how most dropped h files (set files_now place file_now) status later was now err_was err_now
ended_at how at most most_now dropped left left_now h files files_now place file file_now status archive later was mid now err_was err_mid err_now a there marked same last e = record {
  front = take place files;
  front_now = a.front_now;
  file = file;
  file_now = file_now;
  later = drop (place + 1) files;
  parts = sym (take-append-drop place files) ∙ ap (λ (t : List FileState). take place files ++ t) there;
  parts_now = with_next how most dropped left h files files_now place file file_now archive was mid err_was err_mid a there;
  left = left;
  left_now = left_now;
  next = a.next;
  between = mid;
  whole = a.whole;
  bytes = e.0;
  given = e.1;
  ended =
      subst (λ (s : LoadSettings). IsFileEnd s most left left_now a.next e.0 file.input.failed file_now.input.failed status file_now.report later mid now err_was err_now) marked
      (subst (λ (n : ℕ). IsFileEnd at n left left_now a.next e.0 file.input.failed file_now.input.failed status file_now.report later mid now err_was err_now) same
      (subst (λ (o : OutputState). IsFileEnd at most_now left left_now a.next e.0 file.input.failed file_now.input.failed status file_now.report later mid now o err_now) a.quiet e.2));
  last = last;
}

-- where no file is loaded, nothing changes
none_whole : (how : LoadSettings) (most dropped left : ℕ) (h next : History) (files files_now : List FileState) (was now err : OutputState) → files ≡ [] → AreWhole how most dropped left h next files files_now was now err → (next ≡ h) × (now ≡ was)
none_whole how most dropped left h next [] [] was now err none a = (a.1, a.2)
none_whole how most dropped left h next [] (y ∷ ys) was now err none a = absurd a
none_whole how most dropped left h next (x ∷ xs) files_now was now err none a = absurd cc

pub none_loaded : (how : LoadSettings) (most dropped left : ℕ) (h : History) (files files_now : List FileState) (place : ℕ) (archive : Represented) (was now err_was err_now : OutputState)
    → files ≡ [] → IsAt how most dropped left h files files_now place archive was now err_was err_now → archive h × (now ≡ was) × (err_now ≡ err_was)
none_loaded how most dropped left h files files_now place archive was now err_was err_now none a =
    let w = none_whole how most dropped left h a.next (take place files) a.front_now was now err_was (ap (λ (t : List FileState). take place t) none ∙ none_taken place) a.whole in
    (subst archive w.0 a.represented, w.1, a.quiet)
  where
    none_taken : (n : ℕ) → ◌≡◌ {A = List FileState} (take n []) []
    none_taken zero = refl
    none_taken (suc n) = refl

-- the load of a file that isn't the last is done
pub done_next : (status : Status) (how at : LoadSettings) (most most_now between left : ℕ) (g : History) (bytes : List ℕ) (lost_was lost : Bool) (report : LoadReport) (later : Represented) (mid now err_mid err_now : OutputState)
    → at ≡ record how { mark = None } → most_now ≡ most → status ≡ statuses.Done → IsFileEnd at most_now between left g bytes lost_was lost status report later mid now err_mid err_now
    → IsDone (record how { mark = None }) most between left g bytes lost_was lost report later mid now err_mid err_now
done_next status how at most most_now between left g bytes lost_was lost report later mid now err_mid err_now unmarked same done e =
    done_by status (record how { mark = None }) most between left g bytes lost_was lost report later mid now err_mid err_now done
    (subst (λ (s : LoadSettings). IsFileEnd s most between left g bytes lost_was lost status report later mid now err_mid err_now) unmarked
    (subst (λ (n : ℕ). IsFileEnd at n between left g bytes lost_was lost status report later mid now err_mid err_now) same e))

-- a loop over files, of which there is a next one where there is any, ends where there is none
pub no_files : (count place : ℕ) → (0 < count → place < count) → count ≤ place → count ≡ 0
no_files zero place goes ended = refl
no_files (suc count) place goes ended = let g = goes (omega arith) in absurd (omega (arith, g, ended))

-- the state of a file among those of all
pub file_at : {X : Type 0} (f : X → FileState) (xs : List X) (place : ℕ) (d : X) → f (get_or xs place d) ≡ get_or (map f xs) place (f d)
file_at f xs place d = sym (get_or-map f xs place d)
