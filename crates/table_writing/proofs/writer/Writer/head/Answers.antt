use Rattle.std.proofs.Common.{◌≡◌, ℕ, ◌+◌, ◌-◌, ◌/◌, ◌%◌, List, [], ◌∷◌, ◌++◌, length, take, drop, sym, refl, ap, ◌∙◌, arith, length-take-le}
use borrow.Rule.Slice.PartMut.{put_mid}
use Rattle.std.proofs.lemmas.List.{drop-drop}
use Rattle.frames.specs.Frames.{low_first}
use Rattle.tables.specs.Tags.{tag_number}
use Rattle.table_writing.specs.Writing.{halves}
use Rattle.table_writing.proofs.Heads.{header_halves, header_same}
use Rattle.table_writing.proofs.writer.Writer.head.Goals as goal

pub returns : goal.returns
returns c =
    let w = c.args.self.now in
    let b = w.buffer.now in
    let start = c.args.start in
    let size : ℕ = w.at - (start + 3) in
    let header : List ℕ = tag_number c.args.tag ∷ low_first 2 size in
    let is : c.copy_from_slice.new.self ≡ header = c.copy_from_slice.ensures.after ∙ ap (λ n. n ∷ size % 256 ∷ size / 256 % 256 ∷ []) c.number.ensures in
    let three : start + 3 - start ≡ 3 = omega arith in
    let now : put_mid start (start + 3 - start) b c.copy_from_slice.new.self ≡ take start b ++ (header ++ drop (start + 3) b) = (λ i. take start b ++ (is i ++ (drop-drop (start + 3 - start) start b ∙ ap (λ n. drop (start + n) b) three) i)) in
    let all : length (take w.at b) ≡ w.at = length-take-le w.at b w.within in
    record {
      put = ap (halves w.at) now ∙ header_halves b header start w.at refl c.requires w.within ∙ (λ i. record { done = take start (take w.at b) ++ ((tag_number c.args.tag ∷ low_first 2 (sym all i - (start + 3))) ++ drop (start + 3) (take w.at b)); rest = drop w.at b });
      long = ap length now ∙ header_same b header start w.at refl c.requires w.within;
      ends = refl;
      same = refl;
    }
