-- What a refusal says: one definition for each layer's faults gives number, place and layer. Then the byte of a sheet at which a fault stands.
use Rattle.std.specs.Prelude.{ℕ, ◌+◌, ◌*◌}
use Rattle.faults.specs.declared.Refusal.{Refusal}
use Rattle.faults.specs.declared.Layer.{Layer}
use Rattle.faults.specs.declared.Layer.TheVariants.{Code as in_code, Collection as in_collection, Listing as in_listing, Sheet as in_sheet}
use Rattle.faults.specs.declared.CodeFault.{CodeFault}
use Rattle.faults.specs.declared.CodeFault.TheVariants.{PlaceCount, Threshold, Point, RepeatedPoint, Multiplier, Setting, NoSetting}
use Rattle.faults.specs.declared.CollectionFault.{CollectionFault}
use Rattle.faults.specs.declared.CollectionFault.TheVariants.{Blank, AlreadyOpen, Code, NoSuchPlace, NotAnElement, OtherValue, NothingThere}
use Rattle.faults.specs.declared.ListingFault.{ListingFault}
use Rattle.faults.specs.declared.ListingFault.TheVariants.{Collection, SourceCount, EmptyPlace, NotAnElement as NotAnElementListed, NegativeWeight, ResultArea, WorkArea, ZeroForm, MessageLength, Shape}
use Rattle.faults.specs.declared.SheetFault.{SheetFault}
use Rattle.faults.specs.declared.SheetFault.TheVariants.{Version, Length, OtherField, Collection as CollectionLoaded}

abbrev pub refusal : ℕ → ℕ → Layer → Refusal
refusal n p l = record { number = n; place = p; layer = l }

abbrev pub code_refusal : CodeFault → Refusal
code_refusal (PlaceCount points multipliers) = refusal 1 0 in_code
code_refusal (Threshold k) = refusal 2 0 in_code
code_refusal (Point p) = refusal 3 p in_code
code_refusal (RepeatedPoint p) = refusal 4 p in_code
code_refusal (Multiplier p) = refusal 5 p in_code
code_refusal (Setting τ s ℓ) = refusal 6 0 in_code
code_refusal NoSetting = refusal 12 0 in_code

abbrev pub collection_refusal : CollectionFault → Refusal
collection_refusal Blank = refusal 20 0 in_collection
collection_refusal AlreadyOpen = refusal 21 0 in_collection
collection_refusal (Code e) = code_refusal e
collection_refusal (NoSuchPlace p) = refusal 7 p in_collection
collection_refusal (NotAnElement p v) = refusal 8 p in_collection
collection_refusal (OtherValue p held) = refusal 22 p in_collection
collection_refusal (NothingThere p) = refusal 23 p in_collection

abbrev pub listing_refusal : ListingFault → Refusal
listing_refusal (Collection e) = collection_refusal e
listing_refusal (SourceCount count) = refusal 9 0 in_listing
listing_refusal (EmptyPlace p) = refusal 24 p in_listing
listing_refusal (NotAnElementListed p v) = refusal 8 p in_listing
listing_refusal NegativeWeight = refusal 25 0 in_listing
listing_refusal (ResultArea length) = refusal 10 0 in_listing
listing_refusal (WorkArea length) = refusal 11 0 in_listing
listing_refusal ZeroForm = refusal 16 0 in_listing
listing_refusal (MessageLength length) = refusal 17 0 in_listing
listing_refusal Shape = refusal 17 0 in_listing

abbrev pub sheet_refusal : SheetFault → Refusal
sheet_refusal Version = refusal 13 0 in_sheet
sheet_refusal Length = refusal 14 1 in_sheet
sheet_refusal (OtherField number) = refusal 15 3 in_sheet
sheet_refusal (CollectionLoaded e) = collection_refusal e

-- The byte of a sheet: the header has nine bytes, and the entry of place p begins at 9 + 6p with the point, then the multiplier, then the share.
-- A fault that reading a sheet never gives has byte 0.
abbrev pub point_byte : ℕ → ℕ
point_byte p = 9 + 6 * p

abbrev pub multiplier_byte : ℕ → ℕ
multiplier_byte p = 11 + 6 * p

abbrev pub share_byte : ℕ → ℕ
share_byte p = 13 + 6 * p

abbrev pub code_byte : CodeFault → ℕ
code_byte (PlaceCount points multipliers) = 4
code_byte (Threshold k) = 5
code_byte (Point p) = point_byte p
code_byte (RepeatedPoint p) = point_byte p
code_byte (Multiplier p) = multiplier_byte p
code_byte (Setting τ s ℓ) = 6
code_byte NoSetting = 0

abbrev pub collection_byte : CollectionFault → ℕ
collection_byte Blank = 0
collection_byte AlreadyOpen = 0
collection_byte (Code e) = code_byte e
collection_byte (NoSuchPlace p) = 0
collection_byte (NotAnElement p v) = share_byte p
collection_byte (OtherValue p held) = 0
collection_byte (NothingThere p) = 0

abbrev pub sheet_byte : SheetFault → ℕ
sheet_byte Version = 0
sheet_byte Length = 1
sheet_byte (OtherField number) = 3
sheet_byte (CollectionLoaded e) = collection_byte e
