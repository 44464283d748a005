-- The proofs of `specs.Demands`: each part is proved in its crate.
use Rattle.std.specs.Prelude.{◌≡◌}
use Rattle.common.specs.Logic.{true}
use Rattle.datatype.proofs.Properties.{byte-array-claim, custom-datatype-claim, datatype-refusal-claim, same-datatype-claim}
use Rattle.layout.specs.Claims.{Disjoint, start as empty, added as by_call, taken as by-list}
use Rattle.layout.specs.Layout.{Layout, is_sound}
use Rattle.layout.specs.Records.{layout_answer, add_answer, given_answer}
use Rattle.layout.proofs.Accepted.{accepted-claim, whole-list-claim}
use Rattle.layout.proofs.Customs.{unpadded-claim, sized-claim, found-equal-claim}
use Rattle.layout.proofs.Records.{record-claim}
use Rattle.layout.proofs.Reference.{default-claim}
use Rattle.layout.proofs.Sharing.{sharing-claim}
use Rattle.numbers.proofs.Nan.{nan-claim}
use Rattle.scalar_casts.proofs.Claims.{cast-in-range, scalar-nan-claim, kept-claim, kept-cases-claim}
use Rattle.pairs.proofs.Claims.{pair-counts, custom-pairs-claim}
use Rattle.attribute_conversion.proofs.Claims.{copied, by-component}
use Rattle.attribute_conversion.proofs.Differing.{lost-in-claim}
use Rattle.members.specs.Members.{members_answer}
use Rattle.members.proofs.Claimed.{lent-list-claim}
use Rattle.plans.proofs.Facts.{custom-mapping-claim}
use Rattle.plans.specs.Records.{plan_answer, for_layouts_answer, with_default_answer, custom_answer}
use Rattle.point_buffer.proofs.Laid.{storage-claim, places-claim}
use Rattle.buffer_conversion.proofs.Checks.{checked-claim}
use Rattle.buffer_conversion.proofs.Demand.{conversion-claim}
use Rattle.buffer_conversion.proofs.LostNumbers.{lost-claim}
use Rattle.round_trip.proofs.Trip.{round-trip-claim, itself-claim}
use Rattle.point_blocks.proofs.Covered.{parts-claim}
use Rattle.point_blocks.proofs.BlockBytes.{apart-claim, found-claim}
use Rattle.point_blocks.proofs.Blocked.{blocks-claim}
use Rattle.nakvisk.proofs.Claimed.{lost-number-claim}
use Rattle.common.specs.Refusal.{answer, outcome, check, and_then}
use Rattle.plans.specs.Makers.{layouts_lines}
use Rattle.layout_sheets.specs.Records.{sheet_answer}
use Rattle.layout_sheets.specs.Sheet.{layout_from, layout_sheet}
use Rattle.layout_sheets.proofs.Layouts.{layout-record}
use Rattle.sheets.specs.Frame.{three_sheets}
use Rattle.sheets.specs.Mapping.{mapping_sheet}
use Rattle.sheets.specs.Records.{mapping_answer, sheets_answer}
use Rattle.layout_sheets.proofs.Claimed.{sheet-claim, sheet-sharing-claim, defect-claim}
use Rattle.layout_sheets.proofs.Older.{older-sheets-claim}
use Rattle.layout_sheets.proofs.Spellings.{length-claim, custom-fields-claim}
use Rattle.sheets.proofs.Meanings.{meaning-claim}
use Rattle.sheets.proofs.Planned.{mapping-defect-claim, frame-defect-claim}
use Rattle.demands.specs.Demands.{NumberAlone, Demand1, SheetsGive, Demand2, AcceptedLayout, start, added, given, lent, sheet, Demand3, Point2, Point3, Point4, Point8, Point9}
use Rattle.demands.proofs.Numbers.{layout-calls, plan-calls, point-calls, sheet-calls, lent-bytes}

-- ---- demand 1

number-alone : NumberAlone
unfolding add_answer given_answer members_answer layout_answer sheet_answer for_layouts_answer with_default_answer custom_answer plan_answer mapping_answer sheets_answer and_then
number-alone =
    record {
      add = λ l d f n h. rw h;
      given = λ ms count alignment n h. rw h;
      lent = λ ms alignment n h. rw h;
      sheet = λ s n h. rw h;
      all = λ l m n h. rw h;
      with-default = λ l m n h. rw h;
      custom = λ p i j n h. rw h;
      mapping = λ l m o n h. rw h;
      sheets = λ o n h. rw h;
      layout-for-C = λ o n h. rw h;
      plan-for-C = λ o n h. rw h;
      view = λ l place count bytes n h. rw h;
      view-for-C = λ l place count bytes n h. rw h;
      part = λ l place count bytes i n h. rw h;
    }

pub demand-1 : Demand1
demand-1 = record { layouts = layout-calls; plans = plan-calls; points = point-calls; sheets = sheet-calls; alone = number-alone; unaltered = lent-bytes }

-- ---- demand 2

sheets-give : SheetsGive
unfolding layout_sheet layout_from mapping_sheet three_sheets layouts_lines check answer outcome and_then
sheets-give =
    record {
      placed = λ s cs h. rw h;
      given = λ s xs a h. rw h;
      mapping = λ l m s c a b h. rw (a, b, h);
      framed = λ s f h. rw h;
      stands = layout-record;
    }

pub demand-2 : Demand2
demand-2 = record { casts = pair-counts; cast = by-component; fits = cast-in-range; placement = default-claim; meaning = meaning-claim; gives = sheets-give; refused-layouts = defect-claim; refused-mappings = mapping-defect-claim; refused-frames = frame-defect-claim }

-- ---- demand 3

sound : (l : Layout) → AcceptedLayout l → is_sound l ≡ true
sound _ start = accepted-claim.sound _ empty
sound _ (added l k c h) = accepted-claim.sound _ (by_call l k c h)
sound _ (given xs a k h) = accepted-claim.sound _ (by-list xs a k h)
sound _ (lent ms a p h) = lent-list-claim.sound-given ms a p h
sound _ (sheet s k h) = sheet-claim.sound s k h

disjoint : (l : Layout) → AcceptedLayout l → Disjoint l
disjoint _ start = accepted-claim.disjoint _ empty
disjoint _ (added l k c h) = accepted-claim.disjoint _ (by_call l k c h)
disjoint _ (given xs a k h) = accepted-claim.disjoint _ (by-list xs a k h)
disjoint _ (lent ms a p h) = lent-list-claim.disjoint-given ms a p h
disjoint _ (sheet s k h) = sheet-claim.disjoint s k h

pub demand-3 : Demand3
demand-3 =
    record {
      conversion = conversion-claim;
      checked = checked-claim;
      calls = whole-list-claim;
      records = record-claim.list;
      sound = sound;
      disjoint = disjoint;
      sharing =
          record {
            given = sharing-claim.refuses;
            given-only = sharing-claim.only;
            lent = lent-list-claim.refuses;
            lent-only = lent-list-claim.only;
            sheet = sheet-sharing-claim.refuses;
            sheet-only = sheet-sharing-claim.only;
          };
    }

-- ---- document 02

pub point-2 : Point2
point-2 = record { places = places-claim; storages = storage-claim; conversion = conversion-claim; itself = itself-claim; round_trip = round-trip-claim; parts = parts-claim; found = found-claim; apart = apart-claim; blocks = blocks-claim }

pub point-3 : Point3
point-3 = record { formats = nan-claim; scalars = scalar-nan-claim; components = by-component; copies = copied }

pub point-4 : Point4
point-4 = record { lengths = length-claim; refusals = datatype-refusal-claim; arrays = byte-array-claim; older = older-sheets-claim.document-01 }

pub point-8 : Point8
point-8 = record { same = kept-claim; cases = kept-cases-claim; attributes = lost-in-claim; counted = lost-claim; exported = lost-number-claim; blocks = blocks-claim }

pub point-9 : Point9
point-9 =
    record {
      customs = custom-datatype-claim;
      fields = custom-fields-claim;
      equal = same-datatype-claim;
      pairs = custom-pairs-claim;
      counts = pair-counts;
      unpadded = unpadded-claim;
      default = default-claim;
      refusals = datatype-refusal-claim;
      sized = sized-claim;
      found = found-equal-claim;
      mapped = custom-mapping-claim;
      older = older-sheets-claim;
    }
